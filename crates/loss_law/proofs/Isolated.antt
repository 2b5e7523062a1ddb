-- What a service delivers over its spans follows from what it reads of the packets on its PIDs and on the INT's.
use Rattle.std.proofs.Common.{◌≡◌, ℕ, zero, suc, ◌+◌, ◌<◌, Bool, true, false, ◌&&◌, ◌||◌, cond, Option, None, Some, List, [], ◌∷◌, ◌++◌, length, map, fold, take, refl, ap, ap₂, sym, ◌∙◌}
use Rattle.std.specs.Prelude.{filter, is_some, option_map}
use Rattle.std.specs.List.{list_any}
use Rattle.ts_spec.specs.Recording.{Record}
use Rattle.ts_spec.specs.Received.{no_record, is_of, Arrival, arrival_of, arrivals_from, arrivals}
use Rattle.section_spec.specs.Section.{section_form}
use Rattle.plan_spec.specs.Plan.{KindFields, ule, mpe, fec, gse, PlanFields, pid_of, sliced_of}
use Rattle.plan_spec.specs.Changes.{with_pid, has_pid, pid_in, pids_in}
use Rattle.plan_spec.specs.InForce.{version_behind}
use Rattle.channel_law.specs.Words.{timed_packet}
use Rattle.channel_law.proofs.Member.{Member, contains_member}
use Rattle.reception_spec.specs.Packets.{is_on}
use Rattle.reception_spec.specs.Numbers.{no_numbers, units_on, units_of, unit_numbers, service_pid_numbers}
use Rattle.reception_spec.specs.Frames.{told_frames, rows_of, no_frames, sum_of_frames, frame_numbers}
use Rattle.reception_spec.specs.Sums.{sum_of_numbers, numbers_on, numbers_of, unit_numbers_of, frame_numbers_on, frame_numbers_of}
use Rattle.reception_spec.specs.Table.{table_pid, table_sections}
use Rattle.reception_spec.specs.Spans.{version_at_place, is_heard_on, span_from, span_of}
use Rattle.reception_spec.specs.Delivered.{told_by, service_on, delivered_on, delivered_of}
use Rattle.loss_law.specs.Loss.{service_at}
use Rattle.loss_law.specs.Isolation.{reads_moments, pids_for, is_for, is_on_own, read_of, SameForService}
use Rattle.loss_law.proofs.Pids.{pid_on}
use Rattle.loss_law.proofs.Untimed.{still, units_still, frame_numbers_still, service_units_still, service_numbers_still, told_still}
use Rattle.loss_law.proofs.SpansAlike.{any_of, flat_same, map_same, SameSpans, spans_by_records, delivered_by_spans, numbers_by_spans, unit_numbers_by_spans, frame_numbers_by_spans}

-- A service without time slicing: records at moment 0 give the same.

some_still : (moment : Option ℕ) → is_some {T = ℕ} (option_map (λ (time : ℕ). 0) moment) ≡ is_some moment
some_still None = refl
some_still (Some time) = refl

any_still : (pids : List ℕ) (r : Record) → list_any (λ pid. is_on pid (still r)) pids ≡ list_any (λ pid. is_on pid r) pids
any_still [] r = refl
any_still (pid ∷ pids) r = ap₂ (λ (a b : Bool). (a && is_of pid r.bytes) || b) (some_still r.moment) (any_still pids r)

-- Records with other moments, which change neither what is for the service nor which version is in force.

filter_map : (p : Record → Bool) (f : Record → Record) → ((r : Record) → p (f r) ≡ p r) → (records : List Record) → filter p (map f records) ≡ map f (filter p records)
filter_map p f same [] = refl
filter_map p f same (r ∷ records) = ap₂ (λ (b : Bool) (t : List Record). cond b (f r ∷ t) t) (same r) (filter_map p f same records) ∙ by_test (p r)
  where
    by_test : (b : Bool) → cond b (f r ∷ map f (filter p records)) (map f (filter p records)) ≡ map f (cond b (r ∷ filter p records) (filter p records))
    by_test true = refl
    by_test false = refl

take_map : (f : Record → Record) (n : ℕ) (records : List Record) → take n (map f records) ≡ map f (take n records)
take_map f zero records = refl
take_map f (suc n) [] = refl
take_map f (suc n) (r ∷ records) = ap (λ (t : List Record). f r ∷ t) (take_map f n records)

table_still : (plan : PlanFields) (records : List Record) → table_sections plan (map still records) ≡ table_sections plan records
table_still plan records = by_pid (table_pid plan.table)
  where
    by_pid : (pid : Option ℕ) → units_on section_form pid (map still records) ≡ units_on section_form pid records
    by_pid None = refl
    by_pid (Some pid) = units_still section_form pid records

module _ (plan : PlanFields) (f : Record → Record) (table : (records : List Record) → table_sections plan (map f records) ≡ table_sections plan records)
    (blank : f no_record ≡ no_record) where
  version_same : (records : List Record) (place : ℕ) → version_at_place plan (map f records) place ≡ version_at_place plan records place
  unfolding version_at_place
  version_same records place = ap (version_behind plan) (ap (table_sections plan) (take_map f place records) ∙ table (take place records))

  from_same : (all : List Record) (k pid place : ℕ) (records : List Record)
      → span_from plan (map f all) k pid place (map f records) ≡ map f (span_from plan all k pid place records)
  from_same all k pid place [] = refl
  from_same all k pid place (r ∷ records) =
      ap₂ (λ (b : Bool) (t : List Record). cond b (f r) no_record ∷ t)
      (ap (λ (version : ℕ). has_pid (pid_in plan version k) pid) (version_same all place)) (from_same all k pid (place + 1) records)
      ∙ by_test (is_heard_on plan all k pid place)
    where
      by_test : (b : Bool) → cond b (f r) no_record ∷ map f (span_from plan all k pid (place + 1) records)
          ≡ map f (cond b r no_record ∷ span_from plan all k pid (place + 1) records)
      by_test true = refl
      by_test false = ap (λ (t : Record). t ∷ map f (span_from plan all k pid (place + 1) records)) (sym blank)

  span_same : (k pid : ℕ) (records : List Record) → span_of plan k pid (map f records) ≡ map f (span_of plan k pid records)
  span_same k pid records = from_same records k pid 0 records

span_still : (plan : PlanFields) (k pid : ℕ) (records : List Record) → span_of plan k pid (map still records) ≡ map still (span_of plan k pid records)
span_still plan k pid records = span_same plan still (table_still plan) refl k pid records

-- With time slicing: the moments of its own packets alone are read.

module _ (plan : PlanFields) (k : ℕ) where
  abbrev seen : Record → Record
  seen r = read_of (is_on_own plan k r) r

  for_seen : (r : Record) → is_for plan k (seen r) ≡ is_for plan k r
  for_seen r = by_own (is_on_own plan k r)
    where
      by_own : (b : Bool) → is_for plan k (read_of b r) ≡ is_for plan k r
      by_own true = refl
      by_own false = any_still (pids_for plan k) r

  still_seen : (records : List Record) → map still (map seen records) ≡ map still records
  still_seen [] = refl
  still_seen (r ∷ records) = ap₂ (λ (x : Record) (t : List Record). x ∷ t) (by_own (is_on_own plan k r)) (still_seen records)
    where
      zero_of : Option ℕ → Option ℕ
      zero_of moment = option_map {U = ℕ} (λ (time : ℕ). 0) moment

      twice : (moment : Option ℕ) → zero_of (zero_of moment) ≡ zero_of moment
      twice None = refl
      twice (Some time) = refl

      with_moment : Option ℕ → Record
      with_moment moment = record { moment = moment; bytes = r.bytes }

      by_own : (b : Bool) → still (read_of b r) ≡ still r
      by_own true = refl
      by_own false = ap with_moment (twice r.moment)

  table_seen : (records : List Record) → table_sections plan (map seen records) ≡ table_sections plan records
  table_seen records = sym (table_still plan (map seen records)) ∙ ap (table_sections plan) (still_seen records) ∙ table_still plan records

  blank_seen : seen no_record ≡ no_record
  blank_seen = by_own (is_on_own plan k no_record)
    where
      by_own : (b : Bool) → read_of b no_record ≡ no_record
      by_own true = refl
      by_own false = refl

  module _ (pid : ℕ) (there : Member (pids_in plan k) pid) where
    arrival_seen : (r : Record) (j : ℕ) → arrival_of pid j (seen r).moment (seen r).bytes ≡ arrival_of pid j r.moment r.bytes
    arrival_seen r j = by_own (is_on_own plan k r) refl
      where
        by_moment : (moment : Option ℕ) → (is_some moment && is_of pid r.bytes) ≡ false → arrival_of pid j (option_map (λ (time : ℕ). 0) moment) r.bytes ≡ arrival_of pid j moment r.bytes
        by_moment None other = refl
        by_moment (Some time) other = rw other refl

        not_on : is_on_own plan k r ≡ false → (b : Bool) → is_on pid r ≡ b → b ≡ false
        not_on other false is = refl
        not_on other true is =
            let never : true ≡ false = sym (any_of (pids_in plan k) pid r there is) ∙ other in
            absurd (cc (never))

        by_own : (b : Bool) → is_on_own plan k r ≡ b → arrival_of pid j (read_of b r).moment (read_of b r).bytes ≡ arrival_of pid j r.moment r.bytes
        by_own true is = refl
        by_own false is = by_moment r.moment (not_on is (is_on pid r) refl)

    arrivals_seen : (j : ℕ) (records : List Record) → arrivals_from pid j (map seen records) ≡ arrivals_from pid j records
    arrivals_seen j [] = refl
    arrivals_seen j (r ∷ records) = ap₂ (λ (x y : List Arrival). x ++ y) (arrival_seen r j) (arrivals_seen (j + 1) records)

  spans_seen : (records : List Record) → SameSpans plan k (map seen records) records
  spans_seen records pid there =
      ap (λ (t : List Record). map timed_packet (arrivals pid t)) (span_same plan seen table_seen blank_seen k pid records)
      ∙ ap (map timed_packet) (arrivals_seen pid there 0 (span_of plan k pid records))

sliced_stays : (kind : KindFields) (pid : ℕ) → is_some (sliced_of (with_pid kind pid)) ≡ is_some (sliced_of kind)
sliced_stays (ule own address packing) pid = refl
sliced_stays (mpe own) pid = refl
sliced_stays (fec own rows parity None) pid = refl
sliced_stays (fec own rows parity (Some window)) pid = refl
sliced_stays (gse isi address) pid = refl

module _ (plan : PlanFields) (k : ℕ) (known : k < length plan.services) (none : is_some (sliced_of (service_at plan k).kind) ≡ false) (records : List Record) where
  on : (pid : ℕ) → Member (pids_in plan k) pid → pid_of (service_on plan k pid).kind ≡ Some pid
  on pid there = pid_on plan k pid (record { service = known; own = contains_member (pids_in plan k) pid there })

  none_on : (pid : ℕ) → is_some (sliced_of (service_on plan k pid).kind) ≡ false
  none_on pid = sliced_stays (service_at plan k).kind pid ∙ none

  delivered_still : delivered_of plan k (map still records) ≡ delivered_of plan k records
  delivered_still =
      flat_same (delivered_on plan k (map still records)) (delivered_on plan k records) (pids_in plan k)
      (λ pid there.
      ap (λ (span : List Record). told_on_pid pid span) (span_still plan k pid records)
      ∙ told_still true plan.recording (service_on plan k pid) pid (on pid there) (none_on pid) (span_of plan k pid records))
    where
      told_on_pid : ℕ → List Record → List (List ℕ)
      told_on_pid pid span = told_by true plan.recording (service_on plan k pid) span

  numbers_still : numbers_of plan k (map still records) ≡ numbers_of plan k records
  numbers_still =
      ap (fold sum_of_numbers no_numbers)
      (map_same (numbers_on plan k (map still records)) (numbers_on plan k records) (pids_in plan k)
      (λ pid there.
      ap (service_pid_numbers (service_on plan k pid)) (span_still plan k pid records)
      ∙ service_numbers_still (service_on plan k pid) pid (on pid there) (span_of plan k pid records)))

  unit_numbers_still : unit_numbers_of plan k (map still records) ≡ unit_numbers_of plan k records
  unit_numbers_still =
      ap (unit_numbers (service_at plan k))
      (flat_same (λ pid. units_of (service_on plan k pid) (span_of plan k pid (map still records))) (λ pid. units_of (service_on plan k pid) (span_of plan k pid records)) (pids_in plan k)
      (λ pid there.
      ap (units_of (service_on plan k pid)) (span_still plan k pid records)
      ∙ service_units_still (service_on plan k pid) pid (on pid there) (span_of plan k pid records)))

  frame_numbers_as_still : frame_numbers_of plan k (map still records) ≡ frame_numbers_of plan k records
  frame_numbers_as_still =
      ap (fold sum_of_frames no_frames)
      (map_same (frame_numbers_on true plan k (map still records)) (frame_numbers_on true plan k records) (pids_in plan k)
      (λ pid there.
      ap (λ (span : List Record). frame_numbers (rows_of (service_on plan k pid).kind) (told_frames true plan.recording (service_on plan k pid).kind span)) (span_still plan k pid records)
      ∙ frame_numbers_still true plan.recording (service_on plan k pid).kind (span_of plan k pid records) (none_on pid)))

-- With time slicing or without.

-- what records give that are read so
isolated : {X : Type 0} (plan : PlanFields) (k : ℕ) (given : List Record → X)
    → ((records others : List Record) → SameSpans plan k records others → given records ≡ given others)
    → (reads_moments (service_at plan k).kind ≡ false → (records : List Record) → given (map still records) ≡ given records)
    → (records others : List Record) → SameForService plan k records others → given records ≡ given others
isolated {X} plan k given by_spans by_still records others = by_slicing (reads_moments (service_at plan k).kind) refl
  where
    own : List Record → List Record
    own rs = filter (is_for plan k) rs

    for_still : (rs : List Record) → own (map still rs) ≡ map still (own rs)
    for_still rs = filter_map (is_for plan k) still (any_still (pids_for plan k)) rs

    own_seen : (rs : List Record) → own (map (seen plan k) rs) ≡ map (seen plan k) (own rs)
    own_seen rs = filter_map (is_for plan k) (seen plan k) (for_seen plan k) rs

    by_slicing : (b : Bool) → reads_moments (service_at plan k).kind ≡ b
        → map (λ r. read_of (b && is_on_own plan k r) r) (own records) ≡ map (λ r. read_of (b && is_on_own plan k r) r) (own others) → given records ≡ given others
    by_slicing true is same =
        sym (by_spans (map (seen plan k) records) records (spans_seen plan k records))
        ∙ by_spans (map (seen plan k) records) (map (seen plan k) others)
        (spans_by_records plan k (map (seen plan k) records) (map (seen plan k) others) (own_seen records ∙ same ∙ sym (own_seen others)))
        ∙ by_spans (map (seen plan k) others) others (spans_seen plan k others)
    by_slicing false is same =
        sym (by_still is records)
        ∙ by_spans (map still records) (map still others)
        (spans_by_records plan k (map still records) (map still others) (for_still records ∙ same ∙ sym (for_still others)))
        ∙ by_still is others

module _ (plan : PlanFields) (k : ℕ) (known : k < length plan.services) where
  pub delivered_alike : (records others : List Record) → SameForService plan k records others → delivered_of plan k records ≡ delivered_of plan k others
  delivered_alike = isolated plan k (delivered_of plan k) (delivered_by_spans plan k known) (λ none. delivered_still plan k known none)

  pub numbers_alike : (records others : List Record) → SameForService plan k records others → numbers_of plan k records ≡ numbers_of plan k others
  numbers_alike = isolated plan k (numbers_of plan k) (numbers_by_spans plan k known) (λ none. numbers_still plan k known none)

  pub unit_numbers_alike : (records others : List Record) → SameForService plan k records others → unit_numbers_of plan k records ≡ unit_numbers_of plan k others
  unit_numbers_alike = isolated plan k (unit_numbers_of plan k) (unit_numbers_by_spans plan k known) (λ none. unit_numbers_still plan k known none)

  pub frame_numbers_alike : (records others : List Record) → SameForService plan k records others → frame_numbers_of plan k records ≡ frame_numbers_of plan k others
  frame_numbers_alike = isolated plan k (frame_numbers_of plan k) (frame_numbers_by_spans plan k known) (λ none. frame_numbers_as_still plan k known none)
