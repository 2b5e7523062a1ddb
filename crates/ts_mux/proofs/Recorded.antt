-- A record is its stamp and its packet, and stands after those that no sink has yet.
use Rattle.std.proofs.Common.{◌≡◌, ℕ, ◌+◌, ◌-◌, ◌≤◌, List, [], ◌++◌, length, take, drop, sym, ap, ap₂, ◌∙◌, arith, append_assoc, append-nil, length-drop}
use Rattle.std.proofs.lemmas.List.{length-append, length-take-le, take_at, drop_at, take-append-drop, drop-drop, drop_all}
use Rattle.std.proofs.Math.Seq.{take-length}
use borrow.Rule.Slice.PartMut.{post_of}
use Rattle.plan_spec.specs.Plan.{PlanFields}
use Rattle.stream_spec.specs.Parts.{PartFields, stamp_bytes, record_of_slot}
use Rattle.ts_mux.specs.declared.int_packets.IntPackets.{IntPackets}
use Rattle.ts_mux.specs.Services.{Serving}
use Rattle.ts_mux.specs.Slots.{IsPartOf, TakesSlot, WritesRecord, AddsRecord}

-- the stamp of a slot of the stream is that of the slot of its part
pub stamp_is : (plan : PlanFields) (part : PartFields) (is : IsPartOf plan part) (slot of_stream : ℕ) → of_stream ≡ part.slots_before + slot
    → stamp_bytes plan.recording plan.packet_rate of_stream ≡ stamp_bytes part.plan.recording part.plan.packet_rate (part.slots_before + slot)
stamp_is plan part is slot of_stream place =
    ap (λ (s : ℕ). stamp_bytes plan.recording plan.packet_rate s) place
    ∙ ap (λ (p : PlanFields). stamp_bytes p.recording p.packet_rate (part.slots_before + slot)) (sym is.plan_is)

module _ (plan : PlanFields) (part : PartFields) (slot of_stream : ℕ) (serving : Serving) (table : IntPackets) where
  abbrev stamp : List ℕ
  stamp = stamp_bytes part.plan.recording part.plan.packet_rate (part.slots_before + slot)

  abbrev record_is : List ℕ
  record_is = record_of_slot part slot

  -- the stamp was written, and then the packet after it
  pub record_written : (old mid rest new : List ℕ) (size : ℕ) → size ≡ length stamp → size ≤ 8 → mid ≡ stamp ++ drop size old → 196 ≤ length old
      → rest ≡ take (length mid - size) (drop size mid) → drop 188 new ≡ drop 188 rest → length new ≡ length rest → TakesSlot plan part slot of_stream serving table (take 188 new)
      → WritesRecord plan part slot of_stream serving table old (take size mid ++ (new ++ post_of size (length mid - size) mid)) (size + 188)
  record_written old mid rest new size size_is few mid_is room rest_is behind same took = record {
    bytes_are = whole;
    size_is = omega (arith, size_is, length-append stamp (take 188 new), length-take-le 188 new (omega (arith, long)), ap length (ap (λ (t : List ℕ). stamp ++ t) took.bytes_are));
    after = took.after;
  }
    where
      back : drop size mid ≡ drop size old
      back = ap (drop size) mid_is ∙ drop_at stamp (drop size old) size (sym size_is)

      rest_all : rest ≡ drop size old
      rest_all =
          let count : length mid - size ≡ length (drop size mid) = sym (length-drop size mid) in
          rest_is ∙ ap (λ (n : ℕ). take n (drop size mid)) count ∙ take-length (drop size mid) ∙ back

      long : 188 ≤ length new
      long = omega (arith, same, ap length rest_all, length-drop size old, room, few)

      none : post_of size (length mid - size) mid ≡ []
      none = drop_all (length mid - size) (drop size mid) (omega (arith, length-drop size mid))

      new_is : new ≡ take 188 new ++ drop (size + 188) old
      new_is = sym (take-append-drop 188 new) ∙ ap (λ (t : List ℕ). take 188 new ++ t) (behind ∙ ap (drop 188) rest_all ∙ drop-drop 188 size old)

      whole : take size mid ++ (new ++ post_of size (length mid - size) mid) ≡ record_is ++ drop (size + 188) old
      whole =
          ap₂ (λ (a b : List ℕ). a ++ (new ++ b)) (ap (take size) mid_is ∙ take_at stamp (drop size old) size (sym size_is)) none
          ∙ ap (λ (t : List ℕ). stamp ++ t) (append-nil new ∙ new_is)
          ∙ sym (append_assoc stamp (take 188 new) (drop (size + 188) old))
          ∙ ap (λ (t : List ℕ). (stamp ++ t) ++ drop (size + 188) old) took.bytes_are

  -- it was written after the others
  pub record_added : (items rest new : List ℕ) (fill size : ℕ) (before : List ℕ) → take fill items ≡ before → fill ≤ length items
      → WritesRecord plan part slot of_stream serving table rest new size → (all : List ℕ) → all ≡ take fill items ++ new
      → AddsRecord plan part slot of_stream serving table before (take (fill + size) all)
  record_added items rest new fill size before before_is fits wrote all all_is = record {
    bytes_are =
        ap (take (fill + size)) (all_is ∙ ap (λ (t : List ℕ). take fill items ++ t) wrote.bytes_are ∙ sym (append_assoc (take fill items) record_is (drop size rest)))
        ∙ take_at (take fill items ++ record_is) (drop size rest) (fill + size) (omega (arith, length-append (take fill items) record_is, length-take-le fill items fits, wrote.size_is))
        ∙ ap (λ (t : List ℕ). t ++ record_is) before_is;
    after = wrote.after;
  }

-- what a buffer has whose rest from a place on was written
pub rest_written : (items seen rest new : List ℕ) (len fill : ℕ) → seen ≡ items → len ≡ length items → fill ≤ length items → rest ≡ take (length seen - fill) (drop fill seen) → length new ≡ length rest
    → let all : List ℕ = take fill seen ++ (new ++ post_of fill (length seen - fill) seen) in
    take len (all ++ drop (length all) items) ≡ take fill items ++ new
rest_written items seen rest new len fill same len_is fits rest_is size =
    ap (λ (t : List ℕ). take len (t ++ drop (length t) items)) all_is
    ∙ take_at (take fill items ++ new) (drop (length (take fill items ++ new)) items) len (omega (arith, len_is, long))
  where
    count : length rest ≡ length items - fill
    count = omega (arith, ap length rest_is, ap length same, length-drop fill seen, length-take-le (length seen - fill) (drop fill seen) (omega (arith, length-drop fill seen)))

    long : length (take fill items ++ new) ≡ length items
    long = omega (arith, length-append (take fill items) new, length-take-le fill items fits, size, count, fits)

    none : post_of fill (length seen - fill) seen ≡ []
    none = drop_all (length seen - fill) (drop fill seen) (omega (arith, length-drop fill seen))

    all_is : take fill seen ++ (new ++ post_of fill (length seen - fill) seen) ≡ take fill items ++ new
    all_is = ap₂ (λ (a b : List ℕ). take fill a ++ (new ++ b)) same none ∙ ap (λ (t : List ℕ). take fill items ++ t) (append-nil new)

-- a record is written in the room that there is
pub record_kept : (plan : PlanFields) (part : PartFields) (slot of_stream : ℕ) (serving : Serving) (table : IntPackets) (old new : List ℕ) (size : ℕ) → WritesRecord plan part slot of_stream serving table old new size → size ≤ length old
    → length new ≡ length old
record_kept plan part slot of_stream serving table old new size wrote room =
    omega (arith, ap length wrote.bytes_are, length-append (record_of_slot part slot) (drop size old), length-drop size old, wrote.size_is, room)
