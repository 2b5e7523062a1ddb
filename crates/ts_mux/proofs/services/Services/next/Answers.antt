use Rattle.std.proofs.Common.{◌≡◌, ◌<◌, ◌≤◌, ◌∙◌, ℕ, List, [], map, arith, length, ap, Some}
use Rattle.std.specs.Prelude.{slice_index_or}
use Rattle.std.proofs.lemmas.List.{length-map, length-set}
use Rattle.ts_spec.specs.Packet.{PacketFields}
use Rattle.slice_spec.specs.Windows.{OwnedWindow}
use Rattle.time_slice.specs.Views.{windows_in}
use Rattle.ts_mux.specs.Services.{turns_in_service, serving_of, turn_of, Serving}
use Rattle.ts_mux.specs.declared.service_packets.ServicePackets.{ServicePackets}
use Rattle.ts_mux.proofs.Turned.{turn_has, service_at}
use Rattle.ts_mux.proofs.Served.{turn_taken}
use Rattle.ts_mux.proofs.services.Services.next.Goals as goal

-- the service whose turn it is has packets left
has : (items : List ServicePackets) (windows : List OwnedWindow) (first turn : ℕ) (now : Serving) → serving_of items windows first ≡ now → first ≤ length items
    → turn_of now ≡ Some turn → (turn < length items) × (0 < length (slice_index_or (map turns_in_service items) turn []))
has items windows first turn now is le told =
    let it = turn_has (serving_of items windows first) turn (omega (arith, le, length-map items turns_in_service)) (ap turn_of is ∙ told) in
    (omega (arith, it.0, length-map items turns_in_service), it.1)

pub index_mut-requires : goal.index_mut-requires
index_mut-requires c =
    let it = has c.self.inside.services.items (windows_in c.self.inside.windows.items) c.self.inside.first c.args.turn c.args.self.now c.self.view_is c.self.invariant c.requires.turn in
    omega (arith, it.0, c.self.inside.services.ok.0)

pub next-requires : goal.next-requires
next-requires c =
    let it = has c.self.inside.services.items (windows_in c.self.inside.windows.items) c.self.inside.first c.args.turn c.args.self.now c.self.view_is c.self.invariant c.requires.turn in
    omega (arith, it.1, ap (λ (ps : List PacketFields). length ps) (service_at c.self.inside.services.items c.args.turn c.index_mut.result.now it.0 c.index_mut.ensures.value))

pub overflow_add-self : goal.overflow_add-self
overflow_add-self c =
    let it = has c.self.inside.services.items (windows_in c.self.inside.windows.items) c.self.inside.first c.args.turn c.args.self.now c.self.view_is c.self.invariant c.requires.turn in
    omega (arith, it.0, c.self.inside.services.ok.0)

pub invariant_of-self : goal.invariant_of-self
invariant_of-self c =
    let it = has c.self.inside.services.items (windows_in c.self.inside.windows.items) c.self.inside.first c.args.turn c.args.self.now c.self.view_is c.self.invariant c.requires.turn in
    omega (arith, it.0, length-set c.self.inside.services.items c.args.turn c.next.new.self)

pub returns : goal.returns
returns c =
    let it = has c.self.inside.services.items (windows_in c.self.inside.windows.items) c.self.inside.first c.args.turn c.args.self.now c.self.view_is c.self.invariant c.requires.turn in
    record {
      next = turn_taken c.self.inside.services.items (windows_in c.self.inside.windows.items) c.self.inside.first c.args.turn c.index_mut.result.now c.next.new.self it.0 c.index_mut.ensures.value
          c.args.self.now c.self.view_is c.requires.turn c.next.ensures.next.0 c.next.new.into c.next.ensures.next.1 c.next.ensures.next.2 c.next.ensures.bursts c.next.ensures.shape c.next.ensures.behind;
    }
