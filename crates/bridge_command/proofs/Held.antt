-- SNDUs that stand one after another, with one more.
use Rattle.std.proofs.Common.{◌≡◌, ℕ, ◌+◌, ◌-◌, ◌≤◌, true, List, [], ◌∷◌, ◌++◌, length, take, drop, map, slice_index, refl, ap, sym, ◌∙◌, subst, arith}
use Rattle.std.proofs.lemmas.List.{length-append, map_push}
use Rattle.ip_datagram.specs.Held.{pieces_from, AreEndsFrom}
use Rattle.ip_datagram.proofs.Held.{held_pieces, ends_more}
use Rattle.unit_stream.specs.Packers.{AreRising, AreEnds, units_from}
use Rattle.bridge_spec.specs.Frames.{on_pid}
use Rattle.bridge_spec.specs.Sending.{frames_to_carry, sndu_with_frame, has_room}
use Rattle.bridge_command.specs.Tally.{IsBridgeTally}
use Rattle.bridge_command.specs.Holding.{HoldsSndus}
use Rattle.bridge_command.specs.declared.sndus.Sndus.{Sndus}
use Rattle.bridge_command.proofs.Sorted.{carried_more}

-- they are pieces of the buffer
units_are : (from : ℕ) (bytes ends : List ℕ) → units_from from bytes ends ≡ pieces_from from bytes ends
units_are from bytes [] = refl
units_are from bytes (end ∷ ends) = ap (λ (us : List (List ℕ)). take (end - from) (drop from bytes) ∷ us) (units_are end bytes ends)

rising_more : (from size count : ℕ) (ends : List ℕ) → 2 ≤ count → AreEndsFrom from size ends → AreRising 2 from ends → AreRising 2 from (ends ++ (size + count) ∷ [])
rising_more from size count [] some are rising = (omega (arith, some, are), tt)
rising_more from size count (end ∷ ends) some are rising = (rising.0, rising_more end size count ends some are.1 rising.1)

end_is : (from size : ℕ) (ends : List ℕ) → AreEndsFrom from size ends → slice_index (from ∷ ends) (length ends) ≡ size
end_is from size [] are = are
end_is from size (end ∷ ends) are = end_is end size ends are.1

pub held_ends : (sndus : Sndus) (captured : List (List ℕ)) → HoldsSndus sndus captured → AreEnds 2 (length sndus.bytes.items) sndus.ends.items
held_ends sndus captured held = record { rising = held.rising; within = omega (arith, end_is 0 (length sndus.bytes.items) sndus.ends.items held.ends) }

sndu_is_long : (frame : List ℕ) → 2 ≤ length (sndu_with_frame frame)
sndu_is_long frame = omega arith

pub holds_more : (old new : Sndus) (captured : List (List ℕ)) (frame : List ℕ) → HoldsSndus old captured → has_room (on_pid 0) frame ≡ true
    → IsBridgeTally (on_pid 0) (captured ++ frame ∷ []) new.tally → new.bytes.items ≡ old.bytes.items ++ sndu_with_frame frame
    → new.ends.items ≡ old.ends.items ++ length new.bytes.items ∷ [] → HoldsSndus new (captured ++ frame ∷ [])
holds_more old new captured frame held room counted bytes ends =
    let unit : List ℕ = sndu_with_frame frame in
    let size : length new.bytes.items ≡ length old.bytes.items + length unit = ap length bytes ∙ length-append old.bytes.items unit in
    let ends_are : new.ends.items ≡ old.ends.items ++ (length old.bytes.items + length unit) ∷ [] = ends ∙ ap (λ (n : ℕ). old.ends.items ++ n ∷ []) size in
    record {
      units_are = units_are 0 new.bytes.items new.ends.items
          ∙ (held_pieces old.bytes.items unit old.ends.items new.bytes.items new.ends.items (length new.bytes.items) bytes refl ends held.ends
          ∙ (ap (λ (us : List (List ℕ)). us ++ unit ∷ []) (sym (units_are 0 old.bytes.items old.ends.items) ∙ held.units_are)
          ∙ (sym (map_push sndu_with_frame (frames_to_carry (on_pid 0) captured) frame)
          ∙ ap (map sndu_with_frame) (sym (carried_more (on_pid 0) captured frame room)))));
      ends = subst (λ (n : ℕ). AreEndsFrom 0 n new.ends.items) (sym size)
          (subst (λ (es : List ℕ). AreEndsFrom 0 (length old.bytes.items + length unit) es) (sym ends_are) (ends_more 0 (length old.bytes.items) (length unit) old.ends.items held.ends));
      rising = subst (λ (es : List ℕ). AreRising 2 0 es) (sym ends_are) (rising_more 0 (length old.bytes.items) (length unit) old.ends.items (sndu_is_long frame) held.ends held.rising);
      numbers = counted;
    }
