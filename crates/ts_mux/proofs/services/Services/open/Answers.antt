use Rattle.std.proofs.Common.{◌≡◌, ◌<◌, ◌∙◌, ℕ, List, map, arith, length, ap, sym}
use Rattle.std.proofs.lemmas.List.{length-map}
use Rattle.time_slice.specs.Views.{windows_in}
use Rattle.ts_mux.specs.Services.{bursts_in, bursts_of, Serving, Bursts}
use Rattle.ts_mux.specs.declared.service_packets.ServicePackets.{ServicePackets}
use Rattle.ts_mux.proofs.Served.{bursts_at, opened, opened_first}
use Rattle.ts_mux.proofs.services.Services.open.Goals as goal

known : (items : List ServicePackets) (k : ℕ) (now : Serving) → map bursts_in items ≡ now.bursts → k < length now.bursts → k < length items
known items k now same less = omega (arith, less, ap (λ (bs : List Bursts). length bs) same, length-map items bursts_in)

pub open-requires : goal.open-requires
open-requires c =
    let items : List ServicePackets = c.self.inside.services.items in
    let same : map bursts_in items ≡ c.args.self.now.bursts = ap (λ (s : Serving). s.bursts) c.self.view_is in
    ap (λ (b : Bursts). b.under_way) (sym (bursts_at items c.args.k c.index_mut.result.now (known items c.args.k c.args.self.now same c.requires.known) c.index_mut.ensures.value)
    ∙ ap (λ (bs : List Bursts). bursts_of bs c.args.k) same) ∙ c.requires.closed c.if-place-eq0.true

pub returns-then-place-eq0 : goal.returns-then-place-eq0
returns-then-place-eq0 c =
    let items : List ServicePackets = c.self.inside.services.items in
    let same : map bursts_in items ≡ c.args.self.now.bursts = ap (λ (s : Serving). s.bursts) c.self.view_is in
    record {
      opened = opened items (windows_in c.self.inside.windows.items) c.self.inside.first c.args.k c.index_mut.result.now c.open.new.self (known items c.args.k c.args.self.now same c.requires.known) c.index_mut.ensures.value
          c.args.self.now c.self.view_is c.open.ensures.opened c.open.ensures.turns c.open.ensures.shape c.open.ensures.behind
          ∙ ap (λ (bs : List Bursts). let s : Serving = record c.args.self.now { bursts = bs } in s) (opened_first c.args.self.now.bursts c.args.k c.args.place c.if-place-eq0.true);
    }
