use Rattle.std.proofs.Common.{◌≡◌, ℕ, ◌+◌, ◌<◌, true, false, ltb, List, map, drop, length, arith, ap, sym, ◌∙◌}
use Rattle.std.proofs.lemmas.List.{length-map}
use Rattle.ts_mux.specs.Services.{bursts_in, bursts_of, burst_total, Serving, Bursts}
use Rattle.ts_mux.specs.declared.service_packets.ServicePackets.{ServicePackets}
use Rattle.ts_mux.proofs.Served.{bursts_at, rest_left}
use Rattle.ts_mux.proofs.services.Services.has_bursts.Goals as goal

some_so : (n : ℕ) → ltb 0 n ≡ true → 0 < n
some_so n e = grind (arith, e)

none_so : (n : ℕ) → ltb 0 n ≡ false → n ≡ 0
none_so n e = grind (arith, e)

so_some : (n : ℕ) → 0 < n → true ≡ ltb 0 n
so_some n less = grind (arith, less)

so_none : (n : ℕ) → n ≡ 0 → false ≡ ltb 0 n
so_none n e = grind (arith, e)

known : (items : List ServicePackets) (k : ℕ) (now : Serving) → map bursts_in items ≡ now.bursts → k < length items → k < length now.bursts
known items k now same less = omega (arith, less, ap (λ (bs : List Bursts). length bs) same, length-map items bursts_in)

-- how many the service has
here : (items : List ServicePackets) (k : ℕ) (now : Serving) (it : ServicePackets) → map bursts_in items ≡ now.bursts → k < length items → bursts_of (map bursts_in items) k ≡ bursts_in it
    → burst_total (drop k now.bursts) ≡ length (bursts_in it).packets + burst_total (drop (k + 1) now.bursts)
here items k now it same less at =
    rest_left now.bursts k (known items k now same less)
    ∙ ap (λ (b : Bursts). length b.packets + burst_total (drop (k + 1) now.bursts)) (ap (λ (bs : List Bursts). bursts_of bs k) (sym same) ∙ at)

pub returns-then-has_bursts : goal.returns-then-has_bursts
returns-then-has_bursts c =
    let items : List ServicePackets = c.self.inside.services.items in
    let same : map bursts_in items ≡ c.args.self.now.bursts = ap (λ (s : Serving). s.bursts) c.self.view_is in
    let less : c.loop-k.k < length items = omega (arith, c.loop-k-test.true, c.len-k-end.ensures, c.self.inside.services.ok.0) in
    record {
      read = so_some (burst_total c.args.self.now.bursts)
          (omega (
            arith,
            c.loop-k.invariant,
            here items c.loop-k.k c.args.self.now c.index.result.now same less (bursts_at items c.loop-k.k c.index.result.now less c.index.ensures),
            some_so (length (bursts_in c.index.result.now).packets) (sym c.has_bursts.ensures.read ∙ c.if-has_bursts.true),
          ));
    }

pub loop-k-preserved : goal.loop-k-preserved
loop-k-preserved c =
    let items : List ServicePackets = c.self.inside.services.items in
    let same : map bursts_in items ≡ c.args.self.now.bursts = ap (λ (s : Serving). s.bursts) c.self.view_is in
    let less : c.loop-k.k < length items = omega (arith, c.loop-k-test.true, c.len-k-end.ensures, c.self.inside.services.ok.0) in
    omega (
      arith,
      c.loop-k.invariant,
      here items c.loop-k.k c.args.self.now c.index.result.now same less (bursts_at items c.loop-k.k c.index.result.now less c.index.ensures),
      none_so (length (bursts_in c.index.result.now).packets) (sym c.has_bursts.ensures.read ∙ c.if-has_bursts.false),
    )
