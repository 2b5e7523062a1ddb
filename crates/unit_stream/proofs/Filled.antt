-- The units that begin in one packet, one after another.
use Rattle.std.proofs.Common.{◌≡◌, ◌⊎◌, inl, inr, ℕ, ◌+◌, ◌-◌, ◌<◌, ◌≤◌, Bool, true, false, cond, ◌&&◌, leb, List, ◌∷◌, ◌++◌, take, drop, length, replicate, refl, ap, sym, ◌∙◌, arith, append_assoc}
use Rattle.std.proofs.lemmas.List.{append-nil}
use Rattle.reassembly_law.proofs.Outcomes.{leb_true}
use Rattle.unit_stream.specs.Packing.{Filling, stuffed, behind_unit, filled}
use Rattle.unit_stream.specs.Packers.{between, units_from, AreRising, end_of}
use Rattle.unit_stream.specs.Parts.{Fills}
use Rattle.unit_stream.proofs.Numbers.{leb_false}
use Rattle.unit_stream.proofs.Between.{length-between, between-none, between-append, take-between, drop-between, units_from-next, units_from-none, rises, below_last}

abbrev make : List ℕ → List ℕ → List (List ℕ) → Filling
make bytes rest units = record { bytes = bytes; rest = rest; units = units }

same_filling : (a b rest rest2 : List ℕ) (units units2 : List (List ℕ)) → a ≡ b → rest ≡ rest2 → units ≡ units2 → make a rest units ≡ make b rest2 units2
same_filling a b rest rest2 units units2 p q r =
    ap (λ (t : List ℕ). make t rest units) p ∙ ap (λ (t : List ℕ). make b t units) q ∙ ap (make b rest2) r

-- one unit more in front of what stands after
behind-behind : (front unit : List ℕ) (filling : Filling) → behind_unit front (behind_unit unit filling) ≡ behind_unit (front ++ unit) filling
behind-behind front unit filling = ap (λ (t : List ℕ). record { bytes = t; rest = filling.rest; units = filling.units }) (sym (append_assoc front unit filling.bytes))

-- what is filled so far: the units from one place to another
pub record IsFilledTo (start : ℕ) (packing : Bool) (room : ℕ) (ends : List ℕ) (begun : ℕ) (room2 begun2 at : ℕ) : Type 0 where
  pub count : begun2 ≤ length ends
  pub at_end : at ≡ end_of ends begun2
  pub from : end_of ends begun ≤ at
  pub room_left : room2 + (at - end_of ends begun) ≡ room
  pub some : (begun2 ≡ begun) ⊎ (end_of ends begun < at)
  pub filled_is : (bytes : List ℕ) → end_of ends (length ends) ≤ length bytes
      → filled start packing room (units_from (end_of ends begun) bytes (drop begun ends))
      ≡ behind_unit (between bytes (end_of ends begun) at) (filled start packing room2 (units_from at bytes (drop begun2 ends)))

module _ (start : ℕ) (packing : Bool) (room : ℕ) (ends : List ℕ) (begun : ℕ) (rising : AreRising start 0 ends) (least : 1 ≤ start) where
  pub filled_at_first : begun ≤ length ends → IsFilledTo start packing room ends begun room begun (end_of ends begun)
  filled_at_first le = record {
    count = le;
    at_end = refl;
    from = omega arith;
    room_left = omega arith;
    some = inl refl;
    filled_is = λ bytes within. sym (
        ap (λ (t : List ℕ). behind_unit t (filled start packing room (units_from (end_of ends begun) bytes (drop begun ends)))) (between-none bytes (end_of ends begun)));
  }

  module _ (room2 begun2 at size : ℕ) (so : IsFilledTo start packing room ends begun room2 begun2 at) (less : begun2 < length ends) (size_is : size ≡ end_of ends (begun2 + 1) - at) where
    next_end : at + size ≡ end_of ends (begun2 + 1)
    next_end = omega (arith, so.at_end, rises start ends begun2 rising less)

    more : 1 ≤ size
    more = omega (arith, so.at_end, rises start ends begun2 rising less)

    unit_size : (bytes : List ℕ) → end_of ends (length ends) ≤ length bytes → length (between bytes at (at + size)) ≡ size
    unit_size bytes within =
        omega (arith, length-between bytes at (at + size) (omega (arith, next_end, below_last start ends (begun2 + 1) rising (omega arith))))

    units_are : (bytes : List ℕ) → units_from at bytes (drop begun2 ends) ≡ between bytes at (at + size) ∷ units_from (at + size) bytes (drop (begun2 + 1) ends)
    units_are bytes =
        units_from-next bytes ends at begun2 less
        ∙ ap (λ (e : ℕ). between bytes at e ∷ units_from e bytes (drop (begun2 + 1) ends)) (sym next_end)

    fits_is : (bytes : List ℕ) → end_of ends (length ends) ≤ length bytes → size ≤ room2
        → filled start packing room2 (units_from at bytes (drop begun2 ends))
        ≡ behind_unit (between bytes at (at + size)) (cond (packing && leb start (room2 - size))
        (filled start packing (room2 - size) (units_from (at + size) bytes (drop (begun2 + 1) ends)))
        (stuffed (room2 - size) (units_from (at + size) bytes (drop (begun2 + 1) ends))))
    fits_is bytes within fits =
        ap (filled start packing room2) (units_are bytes)
        ∙ ap (λ (b : Bool). cond b
        (behind_unit (between bytes at (at + size)) (cond (packing && leb start (room2 - length (between bytes at (at + size))))
        (filled start packing (room2 - length (between bytes at (at + size))) (units_from (at + size) bytes (drop (begun2 + 1) ends)))
        (stuffed (room2 - length (between bytes at (at + size))) (units_from (at + size) bytes (drop (begun2 + 1) ends)))))
        (make (take room2 (between bytes at (at + size))) (drop room2 (between bytes at (at + size))) (units_from (at + size) bytes (drop (begun2 + 1) ends))))
        (leb_true (length (between bytes at (at + size))) room2 (omega (arith, unit_size bytes within)))
        ∙ ap (λ (n : ℕ). behind_unit (between bytes at (at + size)) (cond (packing && leb start (room2 - n))
        (filled start packing (room2 - n) (units_from (at + size) bytes (drop (begun2 + 1) ends)))
        (stuffed (room2 - n) (units_from (at + size) bytes (drop (begun2 + 1) ends)))))
        (unit_size bytes within)

    -- with the units before
    so_far : (bytes : List ℕ) → end_of ends (length ends) ≤ length bytes → size ≤ room2 → (b : Bool) → (packing && leb start (room2 - size)) ≡ b
        → filled start packing room (units_from (end_of ends begun) bytes (drop begun ends))
        ≡ behind_unit (between bytes (end_of ends begun) (at + size)) (cond b
        (filled start packing (room2 - size) (units_from (at + size) bytes (drop (begun2 + 1) ends)))
        (stuffed (room2 - size) (units_from (at + size) bytes (drop (begun2 + 1) ends))))
    so_far bytes within fits b follows =
        let behind : Bool → Filling = λ t. cond t
        (filled start packing (room2 - size) (units_from (at + size) bytes (drop (begun2 + 1) ends)))
        (stuffed (room2 - size) (units_from (at + size) bytes (drop (begun2 + 1) ends))) in
        so.filled_is bytes within
        ∙ ap (behind_unit (between bytes (end_of ends begun) at)) (fits_is bytes within fits)
        ∙ behind-behind (between bytes (end_of ends begun) at) (between bytes at (at + size)) (behind (packing && leb start (room2 - size)))
        ∙ ap (λ (t : List ℕ). behind_unit t (behind (packing && leb start (room2 - size)))) (between-append bytes (end_of ends begun) at (at + size) so.from (omega arith))
        ∙ ap (λ (t : Bool). behind_unit (between bytes (end_of ends begun) (at + size)) (behind t)) follows

    -- the unit ends in the packet, and the next one may follow
    pub filled_unit : size ≤ room2 → packing ≡ true → start ≤ room2 - size → IsFilledTo start packing room ends begun (room2 - size) (begun2 + 1) (at + size)
    filled_unit fits on follows =
        let both : (packing && leb start (room2 - size)) ≡ true = ap (λ (b : Bool). b && leb start (room2 - size)) on ∙ leb_true start (room2 - size) follows in
        record {
          count = omega arith;
          at_end = next_end;
          from = omega (arith, so.from);
          room_left = omega (arith, so.room_left, so.from);
          some = inr (omega (arith, so.from, more));
          filled_is = λ bytes within. so_far bytes within fits true both;
        }

    -- the unit ends in the packet, and none may follow
    pub fills_unit : size ≤ room2 → (packing && leb start (room2 - size)) ≡ false
        → Fills start packing room ends begun (record { starts = true; begun = begun2 + 1; at = at + size })
    fills_unit fits none =
        let room_is : room2 - size ≡ room - (at + size - end_of ends begun) = omega (arith, so.room_left, so.from) in
        record {
          count = omega arith;
          from = omega (arith, so.from);
          to = omega (arith, next_end);
          room_left = omega (arith, so.room_left, so.from);
          some = λ _ _. omega (arith, so.from, more);
          filled_is = λ bytes within.
              so_far bytes within fits false none
              ∙ same_filling _ _ _ _ _ _ (ap (λ (n : ℕ). between bytes (end_of ends begun) (at + size) ++ replicate n 0xFF) room_is)
              (sym (between-none bytes (at + size)) ∙ ap (between bytes (at + size)) next_end)
              (ap (λ (e : ℕ). units_from e bytes (drop (begun2 + 1) ends)) next_end);
        }

    -- the unit goes on in the next packet
    pub fills_cut : room2 < size → Fills start packing room ends begun (record { starts = true; begun = begun2 + 1; at = at + room2 })
    fills_cut over =
        let no_room : room - (at + room2 - end_of ends begun) ≡ 0 = omega (arith, so.room_left, so.from) in
        record {
          count = omega arith;
          from = omega (arith, so.from);
          to = omega (arith, next_end);
          room_left = omega (arith, so.room_left, so.from);
          some = λ _ some_room. some_bytes some_room so.some;
          filled_is = λ bytes within.
              so.filled_is bytes within
              ∙ ap (λ (t : List (List ℕ)). behind_unit (between bytes (end_of ends begun) at) (filled start packing room2 t)) (units_are bytes)
              ∙ ap (λ (b : Bool). behind_unit (between bytes (end_of ends begun) at) (cond b
              (behind_unit (between bytes at (at + size)) (cond (packing && leb start (room2 - length (between bytes at (at + size))))
              (filled start packing (room2 - length (between bytes at (at + size))) (units_from (at + size) bytes (drop (begun2 + 1) ends)))
              (stuffed (room2 - length (between bytes at (at + size))) (units_from (at + size) bytes (drop (begun2 + 1) ends)))))
              (make (take room2 (between bytes at (at + size))) (drop room2 (between bytes at (at + size))) (units_from (at + size) bytes (drop (begun2 + 1) ends)))))
              (leb_false (length (between bytes at (at + size))) room2 (omega (arith, unit_size bytes within)))
              ∙ same_filling _ _ _ _ _ _
              (ap (λ (t : List ℕ). between bytes (end_of ends begun) at ++ t) (take-between bytes at (at + size) room2 (omega arith))
              ∙ between-append bytes (end_of ends begun) at (at + room2) so.from (omega arith)
              ∙ sym (append-nil (between bytes (end_of ends begun) (at + room2)))
              ∙ ap (λ (n : ℕ). between bytes (end_of ends begun) (at + room2) ++ replicate n 0xFF) (sym no_room))
              (drop-between bytes at (at + size) room2 (omega arith) ∙ ap (between bytes (at + room2)) next_end)
              (ap (λ (e : ℕ). units_from e bytes (drop (begun2 + 1) ends)) next_end);
        }
      where
        some_bytes : 1 ≤ room → (begun2 ≡ begun) ⊎ (end_of ends begun < at) → end_of ends begun < at + room2
        some_bytes some_room (inl same) = omega (arith, so.room_left, so.at_end, ap (end_of ends) same)
        some_bytes some_room (inr beyond) = omega arith

  -- no unit is left
  pub fills_all : (room2 begun2 at : ℕ) → IsFilledTo start packing room ends begun room2 begun2 at → length ends ≤ begun2
      → Fills start packing room ends begun (record { starts = true; begun = begun2; at = at })
  fills_all room2 begun2 at so none =
      let room_is : room2 ≡ room - (at - end_of ends begun) = omega (arith, so.room_left) in
      record {
        count = so.count;
        from = so.from;
        to = omega (arith, so.at_end);
        room_left = omega (arith, so.room_left, so.from);
        some = λ less _. all_bytes less so.some;
        filled_is = λ bytes within.
            so.filled_is bytes within
            ∙ ap (λ (t : List (List ℕ)). behind_unit (between bytes (end_of ends begun) at) (filled start packing room2 t)) (units_from-none bytes ends at begun2 none)
            ∙ same_filling _ _ _ _ _ _ (ap (λ (n : ℕ). between bytes (end_of ends begun) at ++ replicate n 0xFF) room_is)
            (sym (between-none bytes at) ∙ ap (between bytes at) so.at_end)
            (sym (units_from-none bytes ends (end_of ends begun2) begun2 none));
      }
    where
      all_bytes : begun < length ends → (begun2 ≡ begun) ⊎ (end_of ends begun < at) → end_of ends begun < at
      all_bytes less (inl same) = absurd (omega arith)
      all_bytes less (inr beyond) = beyond
