-- The receiver of one service, with one record more: it passes, is taken, or moves the service.
use Rattle.std.proofs.Common.{◌≡◌, ◌≢◌, ℕ, zero, suc, ◌+◌, ◌-◌, ◌^◌, ◌<◌, ◌≤◌, Bool, true, false, Option, None, Some, List, [], ◌∷◌, ◌++◌, length, map, get_or, refl, ap, ap₂, sym, ◌∙◌, subst, arith, length-append, eq-eqb}
use Rattle.std.specs.Prelude.{◌==◌, is_some}
use Rattle.std.proofs.lemmas.Bool.{eqb-true}
use Rattle.ts_spec.specs.Recording.{Record}
use Rattle.plan_spec.specs.Plan.{KindFields, ule, mpe, fec, gse, ServiceFields, PlanFields, pid_of}
use Rattle.plan_spec.specs.Changes.{with_pid, no_service, services_in, pid_in}
use Rattle.plan_law.proofs.Kept.{StaysSame, kept}
use Rattle.reception_spec.specs.Packets.{is_on}
use Rattle.reception_spec.specs.Frames.{rows_of, sum_of_frames}
use Rattle.reception_spec.specs.Spans.{version_at_end, span_from, span_of}
use Rattle.reception_spec.specs.Delivered.{service_on}
use Rattle.reception_spec.specs.Sums.{numbers_on, frame_numbers_on}
use Rattle.reception_law.specs.InForce.{pid_in_force, IsBlank}
use Rattle.reception_law.specs.Sums.{unit_numbers_on, numbers_before, unit_numbers_before, frame_numbers_before}
use Rattle.service_counts.specs.Sums.{raised_counts}
use Rattle.demux_core.specs.Counts.{frames_counted, counts_of_service, counts_before}
use Rattle.demux_core.specs.Services.{counts_in, IsReception, IsFresh, IsReceivingOne, HasReceivedOne}
use Rattle.demux_core.specs.Moving.{IsMoved, Follows}
use Rattle.demux_core.specs.declared.service.ByKind.{ByKind}
use Rattle.demux_core.specs.declared.service.ServiceReceiver.{ServiceReceiver}
use Rattle.demux_core.proofs.KindWords.{HasNumbers, numbers_in, few_rows_on, reads_again, reception_stays, reception_blank}
use Rattle.demux_core.proofs.Laws.{Laws}
use Rattle.demux_core.proofs.Counted.{same_counts, counts_summed}

-- A span is as long as its recording.

length-span_from : (plan : PlanFields) (all : List Record) (k pid place : ℕ) (records : List Record) → length (span_from plan all k pid place records) ≡ length records
length-span_from plan all k pid place [] = refl
length-span_from plan all k pid place (r ∷ records) = ap suc (length-span_from plan all k pid (place + 1) records)

pub length-span_of : (plan : PlanFields) (k pid : ℕ) (records : List Record) → length (span_of plan k pid records) ≡ length records
length-span_of plan k pid records = length-span_from plan records k pid 0 records

-- A service that has a PID in one version has one in all.

abbrev has_one : ServiceFields → Bool
has_one service = is_some (pid_of service.kind)

one_stays : StaysSame has_one
one_stays = record { same = λ service moved. by_kind service.kind moved.pid }
  where
    by_kind : (kind : KindFields) (pid : ℕ) → is_some (pid_of (with_pid kind pid)) ≡ is_some (pid_of kind)
    by_kind (ule old address packing) pid = refl
    by_kind (mpe old) pid = refl
    by_kind (fec old rows parity window) pid = refl
    by_kind (gse isi address) pid = refl

part_at : (part : ServiceFields → Bool) (xs ys : List ServiceFields) (k : ℕ) (d : ServiceFields) → map part xs ≡ map part ys → part (get_or xs k d) ≡ part (get_or ys k d)
part_at part [] [] k d same = refl
part_at part [] (y ∷ ys) k d same = absurd (cc)
part_at part (x ∷ xs) [] k d same = absurd (cc)
part_at part (x ∷ xs) (y ∷ ys) zero d same = cc
part_at part (x ∷ xs) (y ∷ ys) (suc k) d same =
    let rest : map part xs ≡ map part ys = cc in
    part_at part xs ys k d rest

has_one_in : (plan : PlanFields) (version k : ℕ) → is_some (pid_in plan version k) ≡ has_one (get_or plan.services k no_service)
unfolding pid_in
has_one_in plan version k = part_at has_one (services_in plan version) plan.services k no_service (kept has_one one_stays plan version)

pub never_none : (plan : PlanFields) (a b k pid : ℕ) → pid_in plan a k ≡ Some pid → pid_in plan b k ≡ None → ⊥
never_none plan a b k pid there none =
    true_false (ap (λ (o : Option ℕ). is_some o) (sym there) ∙ has_one_in plan a k ∙ sym (has_one_in plan b k) ∙ ap (λ (o : Option ℕ). is_some o) none)
  where
    true_false : true ≡ false → ⊥
    true_false e = cc

-- What received nothing has received a blank span.
pub blank_received : (plan : PlanFields) (k pid : ℕ) (reception : ByKind) (records : List Record) → pid_of (service_on plan k pid).kind ≡ Some pid
    → IsBlank plan k pid records → IsFresh plan.recording (service_on plan k pid) reception → IsReception false plan.recording (service_on plan k pid) reception (span_of plan k pid records)
blank_received plan k pid reception records pid_is blank fresh =
    reception_blank plan.recording (service_on plan k pid) pid reception (span_of plan k pid records) pid_is blank.packets blank.numbers blank.units fresh

-- One record more.
module _ (plan : PlanFields) (laws : Laws plan) (k : ℕ) (old : ServiceReceiver) (records : List Record) (r : Record) (has : HasReceivedOne false plan (version_at_end plan records) k old records) where
  abbrev after : List Record
  after = records ++ r ∷ []

  abbrev it : ServiceFields
  it = service_on plan k old.pid

  grown : span_of plan k old.pid records ++ r ∷ [] ≡ span_of plan k old.pid after
  grown = sym (laws.heard k old.pid records r has.pid_is)

  of_pid : pid_of it.kind ≡ Some old.pid
  of_pid = laws.on_pid (version_at_end plan records) k old.pid has.pid_is

  before_stays : counts_before plan k old.pid records ≡ counts_before plan k old.pid after
  before_stays = same_counts (sym (laws.numbers_stay k old.pid records r has.pid_is)) (sym (laws.units_stay k old.pid records r has.pid_is)) (sym (laws.frames_stay k old.pid records r has.pid_is))

  -- it is no packet of the PID
  pub one_passes : is_on old.pid r ≡ false → HasReceivedOne false plan (version_at_end plan records) k old after
  one_passes off = record {
    pid_is = has.pid_is;
    reception = subst (IsReception false plan.recording it old.reception) grown
        (reception_stays plan.recording it old.pid old.reception (span_of plan k old.pid records) r of_pid off has.reception);
    before_is = has.before_is ∙ before_stays;
  }

  -- the receiver takes it
  pub one_took : (new : ServiceReceiver) → new.pid ≡ old.pid → new.before ≡ old.before
      → IsReception false plan.recording it new.reception (span_of plan k old.pid records ++ r ∷ []) → HasReceivedOne false plan (version_at_end plan records) k new after
  one_took new pid_same before_same took = record {
    pid_is = has.pid_is ∙ ap (λ (p : ℕ). Some p) (sym pid_same);
    reception = subst (λ (p : ℕ). IsReception false plan.recording (service_on plan k p) new.reception (span_of plan k p after)) (sym pid_same)
        (subst (IsReception false plan.recording it new.reception) grown took);
    before_is = before_same ∙ has.before_is ∙ before_stays ∙ ap (λ (p : ℕ). counts_before plan k p after) (sym pid_same);
  }

  -- what is received of it
  pub is_receiving : (pid : ℕ) → old.pid ≡ pid → length records < 2 ^ 32 → IsReceivingOne plan.recording it.filter pid it old (span_of plan k old.pid records)
  is_receiving pid is few = record {
    has = has.reception;
    filter_is = refl;
    of_pid = of_pid ∙ ap (λ (p : ℕ). Some p) is;
    few = omega (arith, length-span_of plan k old.pid records, few);
  }

  -- it puts another version in force, and the receiver follows
  module _ (off : is_on old.pid r ≡ false) (few : length records < 2 ^ 32) (few_changes : length plan.changes ≤ 31) where
    short : length after ≤ 2 ^ 32
    short = omega (arith, length-append records (r ∷ []), few)

    passed : HasReceivedOne false plan (version_at_end plan records) k old after
    passed = one_passes off

    stayed : (new : ServiceReceiver) → pid_in_force plan k after ≡ Some old.pid → new ≡ old → HasReceivedOne false plan (version_at_end plan after) k new after
    stayed new in_force same = subst (λ (t : ServiceReceiver). HasReceivedOne false plan (version_at_end plan after) k t after) (sym same) (record {
      pid_is = in_force;
      reception = passed.reception;
      before_is = passed.before_is;
    })

    moved : (new : ServiceReceiver) (pid : ℕ) → pid_in_force plan k after ≡ Some pid → pid ≢ old.pid → IsMoved pid old new → HasReceivedOne false plan (version_at_end plan after) k new after
    moved new pid in_force apart is =
        let span : List Record = span_of plan k old.pid after in
        let closed : IsReception true plan.recording it is.closed span =
        is.closes.ended plan.recording it span (record { has = passed.reception; few = omega (arith, length-span_of plan k old.pid after, short) }) in
        let counted : HasNumbers true plan.recording it is.closed span = numbers_in true plan.recording it is.closed span closed in
        let kind : KindFields = (get_or plan.services k no_service).kind in
        let few_rows : rows_of kind ≤ 1024 = few_rows_on plan.recording is.closed kind old.pid closed.reads in
        record {
          pid_is = in_force ∙ ap (λ (p : ℕ). Some p) (sym is.pid_is);
          reception = subst (λ (p : ℕ). IsReception false plan.recording (service_on plan k p) new.reception (span_of plan k p after)) (sym is.pid_is)
              (blank_received plan k pid new.reception after (laws.on_pid (version_at_end plan after) k pid in_force)
              (laws.blank k old.pid pid records r has.pid_is in_force apart)
              (is.fresh plan.recording (service_on plan k pid) (reads_again plan.recording is.closed kind old.pid pid closed.reads)));
          before_is = is.counts_are
              ∙ ap₂ raised_counts has.before_is counted
              ∙ counts_summed (numbers_before plan k old.pid records) (numbers_on plan k after old.pid)
              (unit_numbers_before plan k old.pid records) (unit_numbers_on plan k after old.pid)
              (frame_numbers_before plan k old.pid records) (frame_numbers_on true plan k after old.pid) (length after)
              (laws.most_before k old.pid records few_changes (omega (arith, few))) (laws.most_on k old.pid after)
              (laws.most_units_before k old.pid records few_changes (omega (arith, few))) (laws.most_units_on k old.pid after)
              (laws.most_frames_before k old.pid records few_rows few_changes (omega (arith, few))) (laws.most_frames_on true k old.pid after few_rows) short
              ∙ same_counts (sym (laws.numbers_go_on k old.pid pid records r has.pid_is in_force apart)) (sym (laws.units_go_on k old.pid pid records r has.pid_is in_force apart))
              (sym (laws.frames_go_on k old.pid pid records r has.pid_is in_force apart))
              ∙ ap (λ (p : ℕ). counts_before plan k p after) (sym is.pid_is);
        }

    pub one_follows : (new : ServiceReceiver) → Follows (pid_in_force plan k after) old new → HasReceivedOne false plan (version_at_end plan after) k new after
    one_follows new follows = by_pid (pid_in_force plan k after) refl follows
      where
        by_pid : (o : Option ℕ) → pid_in_force plan k after ≡ o → Follows o old new → HasReceivedOne false plan (version_at_end plan after) k new after
        by_pid None none same = absurd (never_none plan (version_at_end plan records) (version_at_end plan after) k old.pid has.pid_is none)
        by_pid (Some pid) is goes = by_same (pid == old.pid) refl
          where
            apart_by : (pid == old.pid) ≡ false → pid ≢ old.pid
            apart_by e = λ same. true_false (sym (eq-eqb pid old.pid same) ∙ e)
              where
                true_false : true ≡ false → ⊥
                true_false h = cc

            by_same : (b : Bool) → (pid == old.pid) ≡ b → HasReceivedOne false plan (version_at_end plan after) k new after
            by_same true e = stayed new (is ∙ ap (λ (p : ℕ). Some p) (eqb-true pid old.pid e)) (goes.stays (eqb-true pid old.pid e))
            by_same false e = moved new pid is (apart_by e) (goes.moves (apart_by e))

-- All that was counted of the service.
module _ (ended : Bool) (plan : PlanFields) (laws : Laws plan) (k : ℕ) (receiver : ServiceReceiver) (records : List Record)
    (has : HasReceivedOne ended plan (version_at_end plan records) k receiver records) (few : length records ≤ 2 ^ 32) (few_changes : length plan.changes ≤ 31) where
  counted : HasNumbers ended plan.recording (service_on plan k receiver.pid) receiver.reception (span_of plan k receiver.pid records)
  counted = numbers_in ended plan.recording (service_on plan k receiver.pid) receiver.reception (span_of plan k receiver.pid records) has.reception

  few_rows : rows_of (get_or plan.services k no_service).kind ≤ 1024
  few_rows = few_rows_on plan.recording receiver.reception (get_or plan.services k no_service).kind receiver.pid has.reception.reads

  -- those of frames, told so far or at the end
  frames_parted : (b : Bool) → sum_of_frames (frame_numbers_before plan k receiver.pid records) (frame_numbers_on b plan k records receiver.pid) ≡ frames_counted b plan k records
  frames_parted true = sym (laws.frames_sum k receiver.pid (version_at_end plan records) records (laws.most_version records) has.pid_is)
  frames_parted false = sym (laws.told_frames_sum k receiver.pid records has.pid_is)

  pub counts_are : raised_counts receiver.before (counts_in receiver.reception) ≡ counts_of_service ended plan k records
  counts_are =
      ap₂ raised_counts has.before_is counted
      ∙ counts_summed (numbers_before plan k receiver.pid records) (numbers_on plan k records receiver.pid)
      (unit_numbers_before plan k receiver.pid records) (unit_numbers_on plan k records receiver.pid)
      (frame_numbers_before plan k receiver.pid records) (frame_numbers_on ended plan k records receiver.pid) (length records)
      (laws.most_before k receiver.pid records few_changes few) (laws.most_on k receiver.pid records)
      (laws.most_units_before k receiver.pid records few_changes few) (laws.most_units_on k receiver.pid records)
      (laws.most_frames_before k receiver.pid records few_rows few_changes few) (laws.most_frames_on ended k receiver.pid records few_rows) few
      ∙ same_counts (sym (laws.numbers_sum k receiver.pid (version_at_end plan records) records (laws.most_version records) has.pid_is))
      (sym (laws.units_sum k receiver.pid (version_at_end plan records) records (laws.most_version records) has.pid_is)) (frames_parted ended)
