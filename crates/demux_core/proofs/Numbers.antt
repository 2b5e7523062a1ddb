-- The numbers of the stream, one record more.
use Rattle.std.proofs.Common.{◌≡◌, ℕ, suc, ◌+◌, ◌-◌, ◌^◌, ◌<◌, ◌≤◌, Bool, true, false, cond, ◌&&◌, ◌||◌, Option, None, Some, List, [], ◌∷◌, ◌++◌, length, refl, ap, ap₂, sym, ◌∙◌, subst, arith}
use Rattle.std.specs.Prelude.{◌==◌, not, min, is_some, is_none, count_by}
use Rattle.std.proofs.lemmas.List.{length_push}
use Rattle.std.proofs.lemmas.List.Sums.{sum_by_push, count_by-le-length}
use Rattle.ts_spec.specs.Packet.{fields_of, is_packet, lacks_sync, is_marked, has_bad_adaptation, lacks_payload, is_scrambled}
use Rattle.ts_spec.specs.Recording.{Record}
use Rattle.plan_spec.specs.Plan.{PlanFields}
use Rattle.reception_spec.specs.Packets.{is_without_payload, is_pid_of, is_unreadable, lacks_content, is_other, is_on}
use Rattle.reception_spec.specs.Spans.{version_at_end, version_at_place}
use Rattle.reception_spec.specs.Delivered.{pairs_of_record}
use Rattle.reception_spec.specs.Sums.{others_from, stream_numbers}
use Rattle.plan_spec.specs.Changes.{plan_in}
use Rattle.loss_report.specs.declared.counts.StreamCounts.{StreamCounts}
use Rattle.demux_core.specs.Counts.{stream_counts_of}
use Rattle.demux_core.specs.Services.{HaveAllReceived}
use Rattle.demux_core.specs.declared.service.ServiceReceiver.{ServiceReceiver}
use Rattle.demux_core.specs.declared.int_receiver.IntReceiver.{IntReceiver}
use Rattle.demux_core.proofs.Laws.{Laws}
use Rattle.demux_core.proofs.Whole.{Misses, int_passes, all_passed, nothing_given}

-- Which record is counted where.

-- records that no PID receives
abbrev pub IsOnNone : Record → Type 0
IsOnNone r = (pid : ℕ) → is_on pid r ≡ false

-- what is known of a record: in which of the three numbers it is counted
pub record IsCountedAs (plan : PlanFields) (r : Record) (unreadable without_payload other : Bool) : Type 0 where
  pub unreadable_is : is_unreadable r ≡ unreadable
  pub without_is : lacks_content r ≡ without_payload
  pub other_is : is_other plan r ≡ other

some_is : (moment : Option ℕ) → is_some moment ≡ not (is_none moment)
some_is None = refl
some_is (Some m) = refl

-- an unreadable record
unreadable_bools : (a p w k : Bool) → (a || not (p || w)) ≡ true → ((not a && w) ≡ false) × ((not a && (p && k)) ≡ false)
unreadable_bools true p w k e = (refl, refl)
unreadable_bools false false false k e = (refl, refl)
unreadable_bools false true w k e = absurd (cc)
unreadable_bools false false true k e = absurd (cc)

on_none_bool : (moment : Option ℕ) (p x : Bool) → (not (is_none moment) && (p && x)) ≡ false → (is_some moment && (p && x)) ≡ false
on_none_bool moment p x e = ap (λ (b : Bool). b && (p && x)) (some_is moment) ∙ e

pub unreadable_is : (plan : PlanFields) (r : Record) → is_unreadable r ≡ true → IsCountedAs plan r true false false
unreadable_is plan r e =
    let facts = unreadable_bools (is_none r.moment) (is_packet r.bytes) (is_without_payload r.bytes) (not (is_pid_of plan (fields_of r.bytes).pid)) e in
    record { unreadable_is = e; without_is = facts.0; other_is = facts.1 }

pub unreadable_on_none : (r : Record) → is_unreadable r ≡ true → IsOnNone r
unreadable_on_none r e = λ pid.
    on_none_bool r.moment (is_packet r.bytes) ((fields_of r.bytes).pid == pid)
    (unreadable_bools (is_none r.moment) (is_packet r.bytes) (is_without_payload r.bytes) ((fields_of r.bytes).pid == pid) e).1

-- a packet without payload is no packet that can be read
no_packet : (s m b l c : Bool) → (not (s || (m || b)) && l) ≡ true → not (s || (m || (b || (l || c)))) ≡ false
no_packet true m b l c e = absurd (cc)
no_packet false true b l c e = absurd (cc)
no_packet false false true l c e = absurd (cc)
no_packet false false false true c e = refl
no_packet false false false false c e = absurd (cc)

pub without_payload_is_none : (bytes : List ℕ) → is_without_payload bytes ≡ true → is_packet bytes ≡ false
unfolding is_packet
without_payload_is_none bytes e =
    ap (λ (b : Bool). (length bytes == 188) && b) (no_packet (lacks_sync bytes) (is_marked bytes) (has_bad_adaptation bytes) (lacks_payload bytes) (is_scrambled bytes) e) ∙ neither (length bytes == 188)
  where
    neither : (b : Bool) → (b && false) ≡ false
    neither true = refl
    neither false = refl

without_bools : (a p w k : Bool) → (not a && w) ≡ true → (w ≡ true → p ≡ false) → ((a || not (p || w)) ≡ false) × ((not a && (p && k)) ≡ false)
without_bools true p w k e none = absurd (cc)
without_bools false p false k e none = absurd (cc)
without_bools false true true k e none = absurd (true_false (none refl))
  where
    true_false : true ≡ false → ⊥
    true_false h = cc
without_bools false false true k e none = (refl, refl)

pub without_is : (plan : PlanFields) (r : Record) → lacks_content r ≡ true → IsCountedAs plan r false true false
without_is plan r e =
    let facts = without_bools (is_none r.moment) (is_packet r.bytes) (is_without_payload r.bytes) (not (is_pid_of plan (fields_of r.bytes).pid)) e (without_payload_is_none r.bytes) in
    record { unreadable_is = facts.0; without_is = e; other_is = facts.1 }

pub without_on_none : (r : Record) → lacks_content r ≡ true → IsOnNone r
without_on_none r e = λ pid.
    on_none_bool r.moment (is_packet r.bytes) ((fields_of r.bytes).pid == pid)
    (without_bools (is_none r.moment) (is_packet r.bytes) (is_without_payload r.bytes) ((fields_of r.bytes).pid == pid) e (without_payload_is_none r.bytes)).1

-- a packet that can be read, with a moment
packet_bools : (p w k : Bool) → p ≡ true → (w ≡ true → p ≡ false) → ((not (p || w)) ≡ false) × (w ≡ false) × ((p && k) ≡ k)
packet_bools true false true e none = (refl, refl, refl)
packet_bools true false false e none = (refl, refl, refl)
packet_bools true true k e none = absurd (true_false (none refl))
  where
    true_false : true ≡ false → ⊥
    true_false h = cc
packet_bools false w k e none = absurd (cc)

pub packet_is : (plan : PlanFields) (r : Record) (moment : ℕ) (known : Bool) → r.moment ≡ Some moment → is_packet r.bytes ≡ true → is_pid_of plan (fields_of r.bytes).pid ≡ known
    → IsCountedAs plan r false false (not known)
packet_is plan r moment known timed readable of_plan =
    let facts = packet_bools (is_packet r.bytes) (is_without_payload r.bytes) (not known) readable (without_payload_is_none r.bytes) in
    record {
      unreadable_is = ap (λ (m : Option ℕ). is_none m || not (is_packet r.bytes || is_without_payload r.bytes)) timed ∙ facts.0;
      without_is = ap (λ (m : Option ℕ). not (is_none m) && is_without_payload r.bytes) timed ∙ facts.1;
      other_is = ap (λ (m : Option ℕ). not (is_none m) && (is_packet r.bytes && not (is_pid_of plan (fields_of r.bytes).pid))) timed
          ∙ ap (λ (b : Bool). is_packet r.bytes && not b) of_plan ∙ facts.2;
    }

-- The counts.

abbrev counts : ℕ → ℕ → ℕ → ℕ → StreamCounts
counts a u w o = record { records = a; tail_bytes = 0; unreadable = u; without_payload = w; other = o }

abbrev pub raised_to : ℕ → ℕ → Type 0
raised_to n old = n ≡ min (old + 1) (2 ^ 64 - 1)

-- there are no more packets of other PIDs than records
few_others : (plan : PlanFields) (all : List Record) (place : ℕ) (records : List Record) → others_from plan all place records ≤ length records
few_others plan all place [] = omega arith
few_others plan all place (r ∷ records) = by_test (is_other (plan_in plan (version_at_place plan all place)) r) (few_others plan all (place + 1) records)
  where
    by_test : (b : Bool) → others_from plan all (place + 1) records ≤ length records → cond b 1 0 + others_from plan all (place + 1) records ≤ suc (length records)
    by_test true later = omega (arith, later)
    by_test false later = omega (arith, later)

module _ (plan : PlanFields) (laws : Laws plan) (records : List Record) (r : Record) (s : StreamCounts) (are : s ≡ stream_counts_of (stream_numbers plan records)) (few : s.records < 2 ^ 32) where
  -- the plan that is in force
  abbrev now : PlanFields
  now = plan_in plan (version_at_end plan records)

  abbrev others : List Record → ℕ
  others all = others_from plan all 0 all

  pub count_is : s.records ≡ length records
  count_is = ap (λ (t : StreamCounts). t.records) are

  pub few_records : length records < 2 ^ 32
  few_records = omega (arith, count_is, few)

  raised_is : (n old : ℕ) (p : Record → Bool) → raised_to n old → old ≡ count_by p records → p r ≡ true → n ≡ count_by p (records ++ r ∷ [])
  raised_is n old p raised is own =
      let less : old < 2 ^ 32 = omega (arith, is, count_by-le-length p records, few_records) in
      let next : min (old + 1) (2 ^ 64 - 1) ≡ old + 1 = grind (arith, less) in
      raised ∙ next ∙ ap (λ (t : ℕ). t + 1) is ∙ ap (λ (b : Bool). count_by p records + cond b 1 0) (sym own) ∙ sym (sum_by_push (λ x. cond (p x) 1 0) records r)

  kept_is : (old : ℕ) (p : Record → Bool) → old ≡ count_by p records → p r ≡ false → old ≡ count_by p (records ++ r ∷ [])
  kept_is old p is other =
      let same : count_by p records ≡ count_by p records + 0 = omega arith in
      is ∙ same ∙ ap (λ (b : Bool). count_by p records + cond b 1 0) (sym other) ∙ sym (sum_by_push (λ x. cond (p x) 1 0) records r)

  longer : s.records + 1 ≡ length (records ++ r ∷ [])
  longer = ap (λ (n : ℕ). n + 1) count_is ∙ sym (length_push records r)

  together : (a t u w o : ℕ) → a ≡ length (records ++ r ∷ []) → t ≡ 0 → u ≡ count_by is_unreadable (records ++ r ∷ []) → w ≡ count_by lacks_content (records ++ r ∷ []) → o ≡ others (records ++ r ∷ [])
      → record { records = a; tail_bytes = t; unreadable = u; without_payload = w; other = o } ≡ stream_counts_of (stream_numbers plan (records ++ r ∷ []))
  together a t u w o ea et eu ew eo =
      ap₂ (λ (x y : ℕ). record { records = x; tail_bytes = y; unreadable = u; without_payload = w; other = o }) ea et
      ∙ ap₂ (λ (x y : ℕ). counts (length (records ++ r ∷ [])) x y o) eu ew
      ∙ ap (counts (length (records ++ r ∷ [])) (count_by is_unreadable (records ++ r ∷ [])) (count_by lacks_content (records ++ r ∷ []))) eo

  no_tail : s.tail_bytes ≡ 0
  no_tail = ap (λ (t : StreamCounts). t.tail_bytes) are

  unreadable_are : s.unreadable ≡ count_by is_unreadable records
  unreadable_are = ap (λ (t : StreamCounts). t.unreadable) are

  without_are : s.without_payload ≡ count_by lacks_content records
  without_are = ap (λ (t : StreamCounts). t.without_payload) are

  other_are : s.other ≡ others records
  other_are = ap (λ (t : StreamCounts). t.other) are

  other_kept : is_other now r ≡ false → s.other ≡ others (records ++ r ∷ [])
  other_kept off =
      let same : others records ≡ others records + 0 = omega arith in
      other_are ∙ same ∙ ap (λ (b : Bool). others records + cond b 1 0) (sym off) ∙ sym (laws.other_more records r)

  other_raised : (n : ℕ) → raised_to n s.other → is_other now r ≡ true → n ≡ others (records ++ r ∷ [])
  other_raised n raised own =
      let less : s.other < 2 ^ 32 = omega (arith, other_are, few_others plan records 0 records, few_records) in
      let next : min (s.other + 1) (2 ^ 64 - 1) ≡ s.other + 1 = grind (arith, less) in
      raised ∙ next ∙ ap (λ (t : ℕ). t + 1) other_are ∙ ap (λ (b : Bool). others records + cond b 1 0) (sym own) ∙ sym (laws.other_more records r)

  pub unreadable_more : (n : ℕ) → raised_to n s.unreadable → IsCountedAs now r true false false
      → record { records = s.records + 1; tail_bytes = s.tail_bytes; unreadable = n; without_payload = s.without_payload; other = s.other } ≡ stream_counts_of (stream_numbers plan (records ++ r ∷ []))
  unreadable_more n raised told = together (s.records + 1) s.tail_bytes n s.without_payload s.other longer no_tail
      (raised_is n s.unreadable is_unreadable raised unreadable_are told.unreadable_is)
      (kept_is s.without_payload lacks_content without_are told.without_is)
      (other_kept told.other_is)

  pub without_more : (n : ℕ) → raised_to n s.without_payload → IsCountedAs now r false true false
      → record { records = s.records + 1; tail_bytes = s.tail_bytes; unreadable = s.unreadable; without_payload = n; other = s.other } ≡ stream_counts_of (stream_numbers plan (records ++ r ∷ []))
  without_more n raised told = together (s.records + 1) s.tail_bytes s.unreadable n s.other longer no_tail
      (kept_is s.unreadable is_unreadable unreadable_are told.unreadable_is)
      (raised_is n s.without_payload lacks_content raised without_are told.without_is)
      (other_kept told.other_is)

  pub other_more : (n : ℕ) → raised_to n s.other → IsCountedAs now r false false true
      → record { records = s.records + 1; tail_bytes = s.tail_bytes; unreadable = s.unreadable; without_payload = s.without_payload; other = n } ≡ stream_counts_of (stream_numbers plan (records ++ r ∷ []))
  other_more n raised told = together (s.records + 1) s.tail_bytes s.unreadable s.without_payload n longer no_tail
      (kept_is s.unreadable is_unreadable unreadable_are told.unreadable_is)
      (kept_is s.without_payload lacks_content without_are told.without_is)
      (other_raised n raised told.other_is)

  pub records_more : IsCountedAs now r false false false
      → record { records = s.records + 1; tail_bytes = s.tail_bytes; unreadable = s.unreadable; without_payload = s.without_payload; other = s.other } ≡ stream_counts_of (stream_numbers plan (records ++ r ∷ []))
  records_more told = together (s.records + 1) s.tail_bytes s.unreadable s.without_payload s.other longer no_tail
      (kept_is s.unreadable is_unreadable unreadable_are told.unreadable_is)
      (kept_is s.without_payload lacks_content without_are told.without_is)
      (other_kept told.other_is)

-- All receivers.

pub misses_none : (r : Record) → IsOnNone r → (receivers : List ServiceReceiver) → Misses r receivers
misses_none r none receivers = λ k receiver found. none receiver.pid

pub all_miss : (plan : PlanFields) (laws : Laws plan) (receivers : List ServiceReceiver) (table : Option IntReceiver) (records : List Record) (r : Record) → IsOnNone r
    → HaveAllReceived false plan receivers table records → HaveAllReceived false plan receivers table (records ++ r ∷ [])
all_miss plan laws receivers table records r none all = all_passed plan laws receivers table records r all (λ pid own. none pid) (misses_none r none receivers)

pub none_given : (plan : PlanFields) (laws : Laws plan) (receivers : List ServiceReceiver) (table : Option IntReceiver) (records : List Record) (r : Record) → IsOnNone r
    → HaveAllReceived false plan receivers table records → pairs_of_record plan (records ++ r ∷ []) (length records) ≡ []
none_given plan laws receivers table records r none all =
    nothing_given plan laws receivers table records r all (misses_none r none receivers) (int_passes plan laws receivers table records r all (λ pid own. none pid)).1

-- the same under equal plans, receivers and records
pub all_along : (ended : Bool) (a b : PlanFields) (xs ys : List ServiceReceiver) (table : Option IntReceiver) (rs ss : List Record) → a ≡ b → xs ≡ ys → rs ≡ ss
    → HaveAllReceived ended a xs table rs → HaveAllReceived ended b ys table ss
all_along ended a b xs ys table rs ss plans receivers records all =
    subst (λ (t : List Record). HaveAllReceived ended b ys table t) records
    (subst (λ (t : List ServiceReceiver). HaveAllReceived ended b t table rs) receivers
    (subst (λ (t : PlanFields). HaveAllReceived ended t xs table rs) plans all))
