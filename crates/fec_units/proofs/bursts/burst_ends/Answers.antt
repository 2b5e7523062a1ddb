use Rattle.std.proofs.Common.{◌≡◌, ℕ, ◌*◌, ◌≤◌, List, [], ◌∷◌, ◌++◌, length, drop, ap, sym, subst, ◌∙◌, arith, append_assoc}
use Rattle.std.specs.List.{All}
use Rattle.std.proofs.lemmas.List.Elements.{All-push}
use Rattle.wire_spec.specs.Lists.{joined}
use Rattle.unit_stream.specs.Packers.{AreRising, end_of}
use Rattle.stream_spec.specs.Units.{datagrams_by_burst}
use Rattle.fec_units.specs.Bursts.{parts_from}
use Rattle.fec_units.specs.Parts.{part_of}
use Rattle.fec_units.proofs.PartEnds.{ends_rise, last_end, parts_more}
use Rattle.fec_units.proofs.bursts.burst_ends.Goals as goal

pub loop-from-preserved : goal.loop-from-preserved
loop-from-preserved c =
    let list : List (List ℕ) = c.args.list.now in
    let ends : List ℕ = c.loop-from.ends.items in
    let end : ℕ = c.burst_end-from.result in
    let items : c.push_reserved.new.self.items ≡ ends ++ end ∷ [] = c.push_reserved.ensures.items in
    let inv = c.loop-from.invariant in
    let parts : parts_from 0 c.push_reserved.new.self.items list ≡ parts_from 0 ends list ++ part_of c.loop-from.from end list ∷ [] =
    ap (λ (es : List ℕ). parts_from 0 es list) items ∙ parts_more 0 ends end list ∙ ap (λ (n : ℕ). parts_from 0 ends list ++ part_of n end list ∷ []) inv.last in
    let later : List (List (List ℕ)) = datagrams_by_burst c.args.rows c.args.columns c.args.slots (drop end list) in
    record {
      within = c.burst_end-from.ensures.within;
      last = ap (λ (es : List ℕ). end_of es (length es)) items ∙ last_end 0 ends end;
      rising = subst (AreRising 1 0) (sym items) (ends_rise 0 ends end inv.rising (omega (arith, inv.last, c.burst_end-from.ensures.some)));
      bursts =
          ap (λ (ps : List (List (List ℕ))). ps ++ later) parts
          ∙ append_assoc (parts_from 0 ends list) (part_of c.loop-from.from end list ∷ []) later
          ∙ ap (λ (ps : List (List (List ℕ))). parts_from 0 ends list ++ ps) (sym c.burst_end-from.ensures.burst)
          ∙ inv.bursts;
      fit = subst (All (λ (burst : List (List ℕ)). length (joined burst) ≤ 191 * c.args.rows)) (sym parts)
          (All-push (λ (burst : List (List ℕ)). length (joined burst) ≤ 191 * c.args.rows) (parts_from 0 ends list) (part_of c.loop-from.from end list) inv.fit c.burst_end-from.ensures.fits);
      room = omega (
        arith,
        inv.room,
        c.push_reserved.ensures.len,
        c.push_reserved.ensures.capacity,
        ap (λ (bs : List (List (List ℕ))). length bs) c.burst_end-from.ensures.burst,
      );
    }
