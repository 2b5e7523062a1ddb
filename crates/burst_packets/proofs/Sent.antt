-- The packets of bursts as they are seen: before the first window of a part, and when a window opens.
use Rattle.std.proofs.Common.{◌≡◌, ℕ, suc, ◌+◌, ◌-◌, ◌*◌, ◌%◌, ◌<◌, ◌≤◌, ◌^◌, Bool, true, false, not, ◌&&◌, eqb, List, [], ◌∷◌, ◌++◌, length, map, drop, sum, refl, sym, ap, ap₂, subst, ◌∙◌, arith, add-one, append-nil, length-drop}
use Rattle.std.specs.Prelude.{All, slice_index}
use Rattle.std.proofs.lemmas.List.{length-append, length-take-le, drop-drop, drop-map, drop_all}
use Rattle.std.proofs.lemmas.List.Sums.{sum_by-cons}
use Rattle.wire_spec.specs.Lists.{joined}
use Rattle.ts_spec.specs.Packet.{PacketFields}
use Rattle.section_spec.specs.Section.{section_form}
use Rattle.section_spec.specs.Mpe.{IsRows}
use Rattle.slice_spec.specs.Bursts.{IsSliceable}
use Rattle.unit_stream.specs.Packing.{packetized}
use Rattle.unit_stream.specs.Packers.{PackerState, AreEnds, IsOnWay, end_of, packets_left, units_of}
use Rattle.unit_stream.proofs.Numbers.{eqb_true, eqb_false}
use Rattle.fec_sent_law.specs.Frames.{AreSendable}
use Rattle.stream_spec.specs.Units.{burst_size, datagrams_by_burst, packet_of_section, units_by_burst, units_of_burst, packetized_apart}
use Rattle.stream_law.proofs.Apart.{size_is}
use Rattle.stream_law.proofs.Bursts.{burst_size_is, length-bursts}
use Rattle.fec_units.specs.Parts.{part_of}
use Rattle.fec_units.specs.Bursts.{AreBurstEnds, AreFirst, HeldUnits, HoldsUnits, units_by_packet}
use Rattle.burst_packets.specs.Timing.{schedule_in, slicing_in, window_in}
use Rattle.burst_packets.specs.Bursts.{AreUnderWay, Begins, all_packets, bursts_in, bursts_seen, delta_in, ends_in, packets_after, packets_in}
use Rattle.burst_packets.specs.declared.bursts.Shape.{Shape}
use Rattle.burst_packets.specs.declared.timing.Timing.{Timing}
use Rattle.burst_packets.proofs.Limits.{few_bursts, sendable_part, size_least, size_most, sizes_most}
use Rattle.burst_packets.proofs.Opened.{count_is, fits, next_burst, some, within}
use Rattle.burst_packets.proofs.Same.{same_bursts}

-- before the first window
module _ (held : HeldUnits) (shape : Shape) (timing : Timing) (datagrams : List (List ℕ)) (ends : List ℕ) (pid counter : ℕ) (packer : PackerState)
    (rows_is : held.rows ≡ shape.rows) (columns_is : held.columns ≡ shape.columns) (is_rows : IsRows shape.rows) (least : 1 ≤ shape.columns) (most : shape.columns ≤ 64)
    (sliceable : IsSliceable (slicing_in timing)) (sendable : AreSendable datagrams) (are : AreBurstEnds shape.rows shape.columns timing.length datagrams ends)
    (few : length datagrams < 2 ^ 32) (low : counter ≤ 15)
    (begins_so : packets_left section_form packer held.bytes [] ≡ packetized section_form true pid counter (units_of held.bytes [])) (on_way : IsOnWay packer [])
    (kept : (packer.pid ≡ pid) × (packer.packing ≡ true) × (packer.counter ≡ counter)) where
  pub way_begins : AreUnderWay held timing datagrams ends 0 packer
  way_begins = record {
    rows_are = subst IsRows (sym rows_is) is_rows;
    columns_least = omega (arith, columns_is, least);
    columns_most = omega (arith, columns_is, most);
    sliceable = sliceable;
    sendable = sendable;
    bursts_are = subst (λ (r : ℕ). AreBurstEnds r held.columns timing.length datagrams ends) (sym rows_is)
        (subst (λ (c : ℕ). AreBurstEnds shape.rows c timing.length datagrams ends) (sym columns_is) are);
    within = omega arith;
    packing = kept.1;
    counter = omega (arith, kept.2, low);
    units = record { rising = tt; within = omega arith };
    way = on_way;
  }

  none : packets_in 0 held packer ≡ []
  none = begins_so

  abbrev own_bursts : List (List (List ℕ))
  own_bursts = units_by_burst shape.rows shape.columns shape.unicast (schedule_in 0 timing) (window_in timing) 0 (datagrams_by_burst shape.rows shape.columns timing.length datagrams)

  all_is : all_packets held shape.unicast timing datagrams 0 packer ≡ packetized_apart pid counter own_bursts
  all_is =
      ap (λ (ps : List PacketFields). ps ++ packets_after held shape.unicast timing datagrams packer.pid ((packer.counter + length ps) % 16) 0) none
      ∙ ap₂ (λ (p c : ℕ). packets_after held shape.unicast timing datagrams p c 0) kept.0 same_counter
      ∙ ap₂ (λ (r c : ℕ).
      packetized_apart pid counter (units_by_burst r c shape.unicast (schedule_in 0 timing) (window_in timing) 0 (datagrams_by_burst r c timing.length datagrams))) rows_is columns_is
    where
      same_counter : (packer.counter + 0) % 16 ≡ counter
      same_counter = omega (arith, kept.2, low)

  count_most : length (packetized_apart pid counter own_bursts) ≤ 2288 * length ends
  count_most =
      omega (
        arith,
        length-bursts shape.rows shape.columns shape.unicast (schedule_in 0 timing) (window_in timing) pid counter 0 (datagrams_by_burst shape.rows shape.columns timing.length datagrams),
        ap (λ (l : List (List (List ℕ))). sum (map (burst_size shape.rows shape.columns) l)) are.bursts_are,
        sizes_most shape.rows shape.columns is_rows most 0 ends datagrams sendable
            (subst (All (λ (b : List (List ℕ)). length (joined b) ≤ 191 * shape.rows)) (sym are.bursts_are) are.fit),
      )

  pub begins : Begins shape timing pid counter datagrams (bursts_seen held shape.unicast timing datagrams 0 packer)
  begins = record {
    rows_are = rows_is;
    columns_are = columns_is;
    packets_are = λ schedule timed.
        all_is
        ∙ ap (packetized_apart pid counter)
        (same_bursts shape.rows shape.columns shape.unicast timing schedule timed 0 (datagrams_by_burst shape.rows shape.columns timing.length datagrams));
    behind_is = ap (λ (n : ℕ). (n + length (all_packets held shape.unicast timing datagrams 0 packer)) % 16) kept.2;
    sizes_are = ap₂ (λ (r c : ℕ). map (burst_size r c) (datagrams_by_burst r c timing.length datagrams)) rows_is columns_is;
    none = ap (λ (ps : List PacketFields). length ps) none;
    most = few_packets (length (all_packets held shape.unicast timing datagrams 0 packer)) (length (packetized_apart pid counter own_bursts)) (length ends) (length datagrams)
        (ap (λ (ps : List PacketFields). length ps) all_is) count_most (few_bursts ends (length datagrams) are.ends_are.rising are.ends_are.within) few;
  }
    where
      few_packets : (a b n m : ℕ) → a ≡ b → b ≤ 2288 * n → n ≤ m → m < 2 ^ 32 → a ≤ 2 ^ 48
      few_packets a b n m e le le2 less = omega (arith, e, le, le2, less)

-- where all windows have opened, no packets follow
pub none_after : (held : HeldUnits) (unicast : List ℕ) (timing : Timing) (datagrams : List (List ℕ)) (ends : List ℕ) (opened : ℕ) (packer : PackerState)
    → AreUnderWay held timing datagrams ends opened packer → length ends ≤ opened
    → all_packets held unicast timing datagrams opened packer ≡ packets_in opened held packer
none_after held unicast timing datagrams ends opened packer way over =
    ap (λ (l : List (List (List ℕ))).
    packets_in opened held packer
    ++ packetized_apart packer.pid ((packer.counter + length (packets_in opened held packer)) % 16)
    (units_by_burst held.rows held.columns unicast (schedule_in 0 timing) (window_in timing) opened l))
    (drop_all opened (bursts_in held timing datagrams) (omega (arith, count_is held.rows held.columns timing.length datagrams ends way.bursts_are, over)))
    ∙ append-nil (packets_in opened held packer)

-- and no burst
pub none_over : (held : HeldUnits) (timing : Timing) (datagrams : List (List ℕ)) (ends : List ℕ) (opened : ℕ) (packer : PackerState)
    → AreUnderWay held timing datagrams ends opened packer → length ends ≤ opened
    → drop opened (map (burst_size held.rows held.columns) (bursts_in held timing datagrams)) ≡ []
none_over held timing datagrams ends opened packer way over =
    drop-map (burst_size held.rows held.columns) opened (bursts_in held timing datagrams)
    ∙ ap (map (burst_size held.rows held.columns))
    (drop_all opened (bursts_in held timing datagrams) (omega (arith, count_is held.rows held.columns timing.length datagrams ends way.bursts_are, over)))

pub sizes_over : (held : HeldUnits) (timing : Timing) (datagrams : List (List ℕ)) (ends : List ℕ) (opened : ℕ) (packer : PackerState)
    → AreUnderWay held timing datagrams ends opened packer → length ends ≤ opened → (n : ℕ)
    → slice_index (drop opened (map (burst_size held.rows held.columns) (bursts_in held timing datagrams))) n ≡ 0
sizes_over held timing datagrams ends opened packer way over n = ap (λ (l : List ℕ). slice_index l n) (none_over held timing datagrams ends opened packer way over)

-- a window opens
module _ (held : HeldUnits) (unicast : List ℕ) (timing : Timing) (datagrams : List (List ℕ)) (ends : List ℕ) (opened : ℕ) (packer : PackerState)
    (way : AreUnderWay held timing datagrams ends opened packer) (less : opened < length ends) where
  abbrev rows : ℕ
  rows = held.rows

  abbrev columns : ℕ
  columns = held.columns

  -- the burst of the window, and those after it
  abbrev pub own : List (List ℕ)
  own = part_of (end_of ends opened) (end_of ends (opened + 1)) datagrams

  abbrev later : List (List (List ℕ))
  later = drop (opened + 1) (bursts_in held timing datagrams)

  bursts_are : drop opened (bursts_in held timing datagrams) ≡ own ∷ later
  bursts_are = next_burst rows columns timing.length datagrams ends way.bursts_are opened less

  pub from_end : end_of ends opened < end_of ends (opened + 1)
  from_end = some rows columns timing.length datagrams ends way.bursts_are opened less

  pub end_within : end_of ends (opened + 1) ≤ length datagrams
  end_within = within rows columns timing.length datagrams ends way.bursts_are opened less

  pub own_fits : length (joined own) ≤ 191 * rows
  own_fits = fits rows columns timing.length datagrams ends way.bursts_are opened less

  pub own_most : burst_size rows columns own ≤ 2288
  own_most = size_most rows columns way.rows_are way.columns_most own (sendable_part (end_of ends opened) (end_of ends (opened + 1)) datagrams way.sendable) own_fits

  own_least : 1 ≤ burst_size rows columns own
  own_least = size_least rows columns way.rows_are way.columns_most own (omega (arith, own_length, from_end))
    where
      own_length : length own ≡ end_of ends (opened + 1) - end_of ends opened
      own_length =
          length-take-le (end_of ends (opened + 1) - end_of ends opened) (drop (end_of ends opened) datagrams)
          (omega (arith, length-drop (end_of ends opened) datagrams, end_within))

  -- how many packets it has
  pub size_seen : slice_index (drop opened (map (burst_size rows columns) (bursts_in held timing datagrams))) 0 ≡ burst_size rows columns own
  size_seen = ap (λ (l : List ℕ). slice_index l 0) (drop-map (burst_size rows columns) opened (bursts_in held timing datagrams) ∙ ap (map (burst_size rows columns)) bursts_are)

  -- packets follow
  pub some_after : 1 ≤ length (all_packets held unicast timing datagrams opened packer)
  some_after =
      omega (
        arith,
        length-append (packets_in opened held packer) (packets_after held unicast timing datagrams packer.pid ((packer.counter + length (packets_in opened held packer)) % 16) opened),
        length-bursts rows columns unicast (schedule_in 0 timing) (window_in timing) packer.pid ((packer.counter + length (packets_in opened held packer)) % 16) opened
            (drop opened (bursts_in held timing datagrams)),
        ap (λ (l : List (List (List ℕ))). sum (map (burst_size rows columns) l)) bursts_are,
        sum_by-cons (λ (n : ℕ). n) (burst_size rows columns own) (map (burst_size rows columns) later),
        own_least,
      )

  -- its units have the delta_t of their packets
  module _ (held2 : HeldUnits) (last : Bool) (from end : ℕ) (deltas now : List ℕ) (from_is : from ≡ end_of ends opened) (end_is : end ≡ end_of ends (opened + 1))
      (now_is : now ≡ deltas) (count : ℕ) (enough : count ≡ 2288) (written : AreFirst count (delta_in timing last opened) deltas)
      (make : (delta : ℕ → ℕ) → AreFirst (burst_size rows columns (part_of from end datagrams)) delta now
      → HoldsUnits held2 (units_by_packet rows columns unicast delta (part_of from end datagrams))) where
    part_is : part_of from end datagrams ≡ own
    part_is = ap₂ (λ (f e : ℕ). part_of f e datagrams) from_is end_is

    pub made_so : HoldsUnits held2 (units_by_packet rows columns unicast (delta_in timing last opened) own)
    made_so =
        subst (λ (p : List (List ℕ)). HoldsUnits held2 (units_by_packet rows columns unicast (delta_in timing last opened) p)) part_is
        (make (delta_in timing last opened)
        (λ n less.
        ap (λ (l : List ℕ). slice_index l n) now_is
        ∙ written n (omega (arith, less, ap (burst_size rows columns) part_is, own_most, enough))))

  last_is : eqb (length later) 0 ≡ eqb (opened + 1) (length ends)
  last_is = by_order (eqb (opened + 1) (length ends)) refl
    where
      left : length later ≡ length ends - (opened + 1)
      left = omega (arith, length-drop (opened + 1) (bursts_in held timing datagrams), count_is rows columns timing.length datagrams ends way.bursts_are)

      differ : (b : Bool) → b ≡ true → b ≡ false → ⊥
      differ b e1 e2 = cc

      by_order : (b : Bool) → eqb (opened + 1) (length ends) ≡ b → eqb (length later) 0 ≡ b
      by_order true e = eqb_true (length later) 0 (omega (arith, left, same (opened + 1) (length ends) e))
        where
          same : (m n : ℕ) → eqb m n ≡ true → m ≡ n
          same m n e2 = grind (arith, e2)
      by_order false e =
          eqb_false (length later) 0
          (λ none. differ (eqb (opened + 1) (length ends)) (eqb_true (opened + 1) (length ends) (omega (arith, left, less, none))) e)

  module _ (held2 : HeldUnits) (packer2 : PackerState) (last : Bool) (rows_is : held2.rows ≡ held.rows) (columns_is : held2.columns ≡ held.columns)
      (pid_is : packer2.pid ≡ packer.pid) (packing_is : packer2.packing ≡ packer.packing) (counter_is : packer2.counter ≡ packer.counter)
      (none : length (packets_in opened held packer) ≡ 0)
      (is_last : last ≡ (not timing.goes_on && eqb (opened + 1) (length ends)))
      (made : HoldsUnits held2 (units_by_packet held.rows held.columns unicast (delta_in timing last opened) own))
      (begins_so : packets_left section_form packer2 held2.bytes held2.ends ≡ packetized section_form packer.packing packer.pid packer.counter (units_of held2.bytes held2.ends))
      (on_way : IsOnWay packer2 held2.ends) where
    next_is : opened + 1 ≡ suc opened
    next_is = add-one opened

    ends_are : ends_in (opened + 1) held2 ≡ held2.ends
    ends_are = ap (λ (n : ℕ). ends_in n held2) next_is

    pub way_goes_on : AreUnderWay held2 timing datagrams ends (opened + 1) packer2
    way_goes_on = record {
      rows_are = subst IsRows (sym rows_is) way.rows_are;
      columns_least = omega (arith, columns_is, way.columns_least);
      columns_most = omega (arith, columns_is, way.columns_most);
      sliceable = way.sliceable;
      sendable = way.sendable;
      bursts_are = subst (λ (r : ℕ). AreBurstEnds r held2.columns timing.length datagrams ends) (sym rows_is)
          (subst (λ (c : ℕ). AreBurstEnds rows c timing.length datagrams ends) (sym columns_is) way.bursts_are);
      within = omega (arith, less);
      packing = packing_is ∙ way.packing;
      counter = omega (arith, counter_is, way.counter);
      units = subst (AreEnds 1 (length held2.bytes)) (sym ends_are) made.ends_are;
      way = subst (IsOnWay packer2) (sym ends_are) on_way;
    }

    abbrev units : List (List ℕ)
    units = units_by_packet rows columns unicast (delta_in timing last opened) own

    abbrev sent : List PacketFields
    sent = packetized section_form true packer.pid packer.counter units

    -- the packets of its units
    sent_is : packets_in (opened + 1) held2 packer2 ≡ sent
    sent_is =
        ap (λ (es : List ℕ). packets_left section_form packer2 held2.bytes es) ends_are
        ∙ begins_so
        ∙ ap₂ (λ (p : Bool) (us : List (List ℕ)). packetized section_form p packer.pid packer.counter us) way.packing made.units_are

    pub size_is_own : length (packets_in (opened + 1) held2 packer2) ≡ burst_size rows columns own
    size_is_own =
        ap (λ (ps : List PacketFields). length ps) sent_is
        ∙ size_is packer.pid packer.counter units
        ∙ burst_size_is rows columns unicast (λ i. delta_in timing last opened (packet_of_section rows columns own i)) own

    pub size_opens : length (packets_in (opened + 1) held2 packer2) ≡ slice_index (drop opened (map (burst_size rows columns) (bursts_in held timing datagrams))) 0
    size_opens = size_is_own ∙ sym size_seen

    pub sizes_open : drop (opened + 1) (map (burst_size held2.rows held2.columns) (bursts_in held2 timing datagrams))
        ≡ drop 1 (drop opened (map (burst_size rows columns) (bursts_in held timing datagrams)))
    sizes_open =
        ap₂ (λ (r c : ℕ). drop (opened + 1) (map (burst_size r c) (datagrams_by_burst r c timing.length datagrams))) rows_is columns_is
        ∙ sym (drop-drop 1 opened (map (burst_size rows columns) (bursts_in held timing datagrams)))

    abbrev rest : List (List (List ℕ))
    rest = units_by_burst rows columns unicast (schedule_in 0 timing) (window_in timing) (opened + 1) later

    -- the same packets
    pub packets_open : all_packets held2 unicast timing datagrams (opened + 1) packer2 ≡ all_packets held unicast timing datagrams opened packer
    packets_open = new_is ∙ sym old_is
      where
        new_is : all_packets held2 unicast timing datagrams (opened + 1) packer2 ≡ sent ++ packetized_apart packer.pid ((packer.counter + length sent) % 16) rest
        new_is =
            ap (λ (ps : List PacketFields). ps ++ packets_after held2 unicast timing datagrams packer2.pid ((packer2.counter + length ps) % 16) (opened + 1)) sent_is
            ∙ ap₂ (λ (p c : ℕ). sent ++ packets_after held2 unicast timing datagrams p ((c + length sent) % 16) (opened + 1)) pid_is counter_is
            ∙ ap₂ (λ (r c : ℕ).
            sent
            ++ packetized_apart packer.pid ((packer.counter + length sent) % 16)
            (units_by_burst r c unicast (schedule_in 0 timing) (window_in timing) (opened + 1) (drop (opened + 1) (datagrams_by_burst r c timing.length datagrams)))) rows_is columns_is

        same_counter : (packer.counter + 0) % 16 ≡ packer.counter
        same_counter = omega (arith, way.counter)

        nothing : (ps : List PacketFields) → length ps ≡ 0 → ps ≡ []
        nothing [] e = refl
        nothing (p ∷ ps) e = absurd (omega (arith, e))

        units_are : units_of_burst rows columns unicast (schedule_in 0 timing) (window_in timing) (not timing.goes_on && eqb (length later) 0) opened own ≡ units
        units_are = ap (λ (b : Bool). units_of_burst rows columns unicast (schedule_in 0 timing) (window_in timing) b opened own)
            (ap (λ (b : Bool). not timing.goes_on && b) last_is ∙ sym is_last)

        old_is : all_packets held unicast timing datagrams opened packer ≡ sent ++ packetized_apart packer.pid ((packer.counter + length sent) % 16) rest
        old_is =
            ap (λ (ps : List PacketFields). ps ++ packets_after held unicast timing datagrams packer.pid ((packer.counter + length ps) % 16) opened) (nothing (packets_in opened held packer) none)
            ∙ ap (λ (c : ℕ). packets_after held unicast timing datagrams packer.pid c opened) same_counter
            ∙ ap (λ (l : List (List (List ℕ))). packetized_apart packer.pid packer.counter (units_by_burst rows columns unicast (schedule_in 0 timing) (window_in timing) opened l)) bursts_are
            ∙ ap (λ (us : List (List ℕ)). packetized_apart packer.pid packer.counter (us ∷ rest)) units_are

    pub behind_opens : (packer2.counter + length (all_packets held2 unicast timing datagrams (opened + 1) packer2)) % 16
        ≡ (packer.counter + length (all_packets held unicast timing datagrams opened packer)) % 16
    behind_opens = ap₂ (λ (c : ℕ) (ps : List PacketFields). (c + length ps) % 16) counter_is packets_open
