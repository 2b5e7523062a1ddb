use Rattle.std.proofs.Common.{◌≡◌, ℕ, List, [], ◌∷◌, length, true, ap, refl, ◌∙◌}
use Rattle.section_spec.specs.Section.{section_form}
use Rattle.unit_stream.specs.Packing.{packetized}
use Rattle.unit_stream.specs.Packers.{packets_left}
use Rattle.ts_mux.proofs.Held.{one_unit}
use Rattle.ts_mux.proofs.int_packets.SectionPackets.new.Goals as goal

pub invariant_of-result : goal.invariant_of-result
invariant_of-result c = record {
  ends_are = refl;
  some = c.requires.some;
  way = c.with_counter.ensures.on_way (length c.args.section.now ∷ []);
}

pub returns : goal.returns
returns c =
    let section : List ℕ = c.args.section.now in
    let packets : packets_left section_form c.with_counter.result section (length section ∷ []) ≡ packetized section_form true c.args.pid c.args.counter (section ∷ [])
    = c.with_counter.ensures.begins section (length section ∷ [])
    ∙ ap (λ (units : List (List ℕ)). packetized section_form true c.args.pid c.args.counter units) (one_unit section (length section ∷ []) refl) in
    record { written = rw (packets, c.with_counter.ensures.kept.0, c.with_counter.ensures.kept.1, c.with_counter.ensures.kept.2) refl }
