-- The bytes of frames that are not out: before the first frame, and when the next one is made.
use Rattle.std.proofs.Common.{◌≡◌, ℕ, ◌+◌, ◌-◌, ◌*◌, ◌%◌, ◌<◌, ◌≤◌, List, [], ◌∷◌, ◌++◌, length, drop, replicate, slice_index, refl, sym, ap, ap₂, subst, ◌∙◌, arith, length-drop}
use Rattle.std.proofs.lemmas.List.{length-append, length-take-le, drop_all, get_or-replicate}
use Rattle.wire_spec.specs.Lists.{joined}
use Rattle.section_spec.specs.Mpe.{IsRows}
use Rattle.fec_sent_law.specs.Frames.{AreSendable}
use Rattle.stream_spec.specs.Units.{burst_size, datagrams_by_frame, units_of_frame, units_of_frames, units_with_delta}
use Rattle.fec_units.specs.Bursts.{AreFirst, HeldUnits, HoldsUnits, units_by_packet}
use Rattle.fec_units.specs.Packets.{column_sizes, data_sizes}
use Rattle.fec_units.specs.Parts.{part_of}
use Rattle.fec_units.proofs.Counted.{sizes_of}
use Rattle.fec_units.proofs.Parts.{joined-append}
use Rattle.fec_units.proofs.Timed.{unit_sizes}
use Rattle.burst_packets.specs.Frames.{units_in}
use Rattle.burst_packets.specs.declared.bursts.Shape.{Shape}
use Rattle.burst_packets.proofs.Limits.{sendable_part, size_most}

-- Numbers of frames go round.

same_number : (rows columns : ℕ) (unicast : List ℕ) (a b : ℕ) (frames : List (List (List ℕ))) → a % 4096 ≡ b % 4096
    → units_of_frames rows columns unicast a frames ≡ units_of_frames rows columns unicast b frames
same_number rows columns unicast a b [] e = refl
same_number rows columns unicast a b (frame ∷ frames) e =
    ap₂ (λ (d : ℕ) (us : List (List ℕ)). units_with_delta rows columns unicast (λ (i : ℕ). d) frame ++ us) e
    (same_number rows columns unicast (a + 1) (b + 1) frames (omega (arith, e)))

-- where all bytes of a frame are out
pub over : (shape : Shape) (bytes : List ℕ) (out number : ℕ) (datagrams : List (List ℕ)) → out ≡ length bytes
    → drop out bytes ++ joined (units_in shape number datagrams) ≡ joined (units_in shape number datagrams)
over shape bytes out number datagrams is =
    ap (λ (t : List ℕ). t ++ joined (units_in shape number datagrams)) (drop_all out bytes (omega (arith, is)))

pub begins_left : (shape : Shape) (bytes : List ℕ) (out number first : ℕ) (datagrams : List (List ℕ)) → out ≡ length bytes → number ≡ first % 4096
    → drop out bytes ++ joined (units_in shape number (drop 0 datagrams)) ≡ joined (units_in shape first datagrams)
begins_left shape bytes out number first datagrams is number_is =
    over shape bytes out number datagrams is
    ∙ ap joined (same_number shape.rows shape.columns shape.unicast number first (datagrams_by_frame shape.rows datagrams) (omega (arith, number_is)))

-- where bytes are left, so is a datagram
pub datagram_left : (shape : Shape) (bytes : List ℕ) (out number from : ℕ) (datagrams : List (List ℕ)) → out ≡ length bytes → from ≤ length datagrams
    → 0 < length (drop out bytes ++ joined (units_in shape number (drop from datagrams))) → from < length datagrams
datagram_left shape bytes out number from datagrams is within some =
    by_rest (drop from datagrams) (length-drop from datagrams) (subst (λ (t : List ℕ). 0 < length t) (over shape bytes out number (drop from datagrams) is) some)
  where
    by_rest : (rest : List (List ℕ)) → length rest ≡ length datagrams - from → 0 < length (joined (units_in shape number rest)) → from < length datagrams
    by_rest [] e more = absurd (omega (arith, more))
    by_rest (d ∷ rest) e more = omega (arith, e)

-- The next frame.

some_bytes : (units : List (List ℕ)) (size : ℕ) (sizes : List ℕ) → sizes_of units ≡ (size + 16) ∷ sizes → 0 < length (joined units)
some_bytes [] size sizes e = absurd (omega (arith, ap (λ (l : List ℕ). length l) e))
some_bytes (unit ∷ units) size sizes e = omega (arith, length-append unit (joined units), ap (λ (l : List ℕ). slice_index l 0) e)

module _ (shape : Shape) (from end number : ℕ) (datagrams : List (List ℕ)) (held : HeldUnits) (is_rows : IsRows shape.rows) (few : shape.columns ≤ 64)
    (sendable : AreSendable datagrams) (less : from < end) (within : end ≤ length datagrams) (below : number < 4096)
    (fits : length (joined (part_of from end datagrams)) ≤ 191 * shape.rows)
    (parts : datagrams_by_frame shape.rows (drop from datagrams) ≡ part_of from end datagrams ∷ datagrams_by_frame shape.rows (drop end datagrams)) where
  abbrev own : List (List ℕ)
  own = part_of from end datagrams

  -- the number of the frame is the delta_t of each packet
  all_first : (deltas : List ℕ) → deltas ≡ replicate 2288 number → AreFirst (burst_size shape.rows shape.columns own) (λ (n : ℕ). number) deltas
  all_first deltas is n less2 =
      ap (λ (l : List ℕ). slice_index l n) is
      ∙ get_or-replicate 2288 n number 0 (omega (arith, less2, size_most shape.rows shape.columns is_rows few own (sendable_part from end datagrams sendable) fits))

  -- its units
  pub made_so : (rows columns : ℕ) (deltas : List ℕ) → rows ≡ shape.rows → columns ≡ shape.columns → deltas ≡ replicate 2288 number
      → ((delta : ℕ → ℕ) → AreFirst (burst_size rows columns own) delta deltas → HoldsUnits held (units_by_packet rows columns shape.unicast delta own))
      → HoldsUnits held (units_by_packet shape.rows shape.columns shape.unicast (λ (n : ℕ). number) own)
  made_so rows columns deltas rows_is columns_is is make =
      subst (λ (r : ℕ). HoldsUnits held (units_by_packet r shape.columns shape.unicast (λ (n : ℕ). number) own)) rows_is
      (subst (λ (c : ℕ). HoldsUnits held (units_by_packet rows c shape.unicast (λ (n : ℕ). number) own)) columns_is
      (make (λ (n : ℕ). number)
      (λ n less2. all_first deltas is n (omega (arith, less2, ap₂ (λ (r c : ℕ). burst_size r c own) rows_is columns_is)))))

  module _ (made : HoldsUnits held (units_by_packet shape.rows shape.columns shape.unicast (λ (n : ℕ). number) own)) where
    own_units : units_by_packet shape.rows shape.columns shape.unicast (λ (n : ℕ). number) own ≡ units_of_frame shape.rows shape.columns shape.unicast number own
    own_units =
        let same : number ≡ number % 4096 = omega (arith, below) in
        ap (λ (d : ℕ). units_with_delta shape.rows shape.columns shape.unicast (λ (i : ℕ). d) own) same

    pub made_left : (bytes : List ℕ) (out next : ℕ) → out ≡ length bytes → next ≡ (number + 1) % 4096
        → held.bytes ++ joined (units_in shape next (drop end datagrams)) ≡ drop out bytes ++ joined (units_in shape number (drop from datagrams))
    made_left bytes out next is next_is =
        ap₂ (λ (t : List ℕ) (us : List (List ℕ)). t ++ joined us) (made.whole ∙ ap joined own_units)
        (same_number shape.rows shape.columns shape.unicast next (number + 1) (datagrams_by_frame shape.rows (drop end datagrams)) (omega (arith, next_is)))
        ∙ sym (joined-append (units_of_frame shape.rows shape.columns shape.unicast number own) (units_in shape (number + 1) (drop end datagrams)))
        ∙ sym (ap (λ (frames : List (List (List ℕ))). joined (units_of_frames shape.rows shape.columns shape.unicast number frames)) parts)
        ∙ sym (over shape bytes out number (drop from datagrams) is)

    pub made_some : 0 < length held.bytes
    made_some =
        subst (λ (t : List ℕ). 0 < length t) (sym made.whole)
        (by_own own (omega (arith, length-take-le (end - from) (drop from datagrams) (omega (arith, length-drop from datagrams, within)), less)))
      where
        by_own : (ds : List (List ℕ)) → 0 < length ds → 0 < length (joined (units_by_packet shape.rows shape.columns shape.unicast (λ (n : ℕ). number) ds))
        by_own [] none = absurd (omega (arith, none))
        by_own (d ∷ ds) some =
            some_bytes (units_by_packet shape.rows shape.columns shape.unicast (λ (n : ℕ). number) (d ∷ ds)) (length d) (data_sizes ds ++ column_sizes shape.rows shape.columns)
            (unit_sizes shape.rows shape.columns shape.unicast (d ∷ ds) (λ (i : ℕ). number) few)
