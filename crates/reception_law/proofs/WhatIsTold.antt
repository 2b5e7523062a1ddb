-- What records tell of a service, record by record.
use Rattle.std.proofs.Common.{◌≡◌, ◌⊎◌, inl, inr, ℕ, ◌+◌, ◌<◌, ◌≤◌, Bool, true, false, not, cond, eqb, Option, None, Some, List, [], ◌∷◌, ◌++◌, length, flat_map, take, drop, refl, ap, ap₂, sym, ◌∙◌, arith, append_assoc}
use Rattle.std.specs.Prelude.{◌≢◌}
use Rattle.std.proofs.lemmas.Bool.{eqb-true, eq-eqb, ne_eqb, or_parts, cases_lt}
use Rattle.std.proofs.lemmas.List.{append-nil, take_at, take_all, drop_at, length_push}
use Rattle.std.proofs.lemmas.List.Concat.{flat_map-append}
use Rattle.ts_spec.specs.Recording.{Record}
use Rattle.plan_spec.specs.Plan.{PlanFields}
use Rattle.plan_spec.specs.Changes.{has_pid, pid_in, pids_in, has_wrong_change}
use Rattle.plan_law.proofs.Pids.{is_in, twice}
use Rattle.reception_spec.specs.Packets.{is_on}
use Rattle.reception_spec.specs.Spans.{version_at_place, version_at_end, span_of}
use Rattle.reception_spec.specs.Delivered.{told_by, service_on, takes_no_more, told_on, told_of, delivered_on, delivered_of, given_by_record, given_by_end}
use Rattle.reception_law.specs.Words.{added_on, closed_on}
use Rattle.reception_law.specs.InForce.{pid_in_force, closed_by_move, given_on, ComesLater, IsBlank}
use Rattle.reception_law.proofs.Frames.{told_more, told_end, told_nothing, none_added}
use Rattle.reception_law.proofs.OtherPid.{pid_or_none, none_stays}
use Rattle.reception_law.proofs.VersionInForce.{before, most, rises, rises_at_end}
use Rattle.reception_law.proofs.Lists.{flat_same, flat_none, other_way, twice_parts}
use Rattle.reception_law.proofs.Pids.{AreParted, are_parted, once}
use Rattle.reception_law.proofs.ServiceSpans.{IsOff, not_heard, span_heard, tells, told_same, closed_same, blank_where}

-- Spans to come.

-- the span of a PID that the service has in no version up to the one in force is blank
not_yet : (plan : PlanFields) (k pid : ℕ) (records : List Record) (version : ℕ) → ((p : ℕ) → p < length records → version_at_place plan records p ≤ version)
    → ((earlier : ℕ) → earlier ≤ version → has_pid (pid_in plan earlier k) pid ≡ false) → IsBlank plan k pid records
not_yet plan k pid records version below never = blank_where plan k pid records (λ p less. never (version_at_place plan records p) (below p less))

below_end : (plan : PlanFields) (records : List Record) (p : ℕ) → p < length records → version_at_place plan records p ≤ version_at_end plan records
below_end plan records p less = rises plan records p (length records) (omega (arith, less))

below_next : (plan : PlanFields) (records : List Record) (r : Record) (p : ℕ) → p < length (records ++ r ∷ []) → version_at_place plan (records ++ r ∷ []) p ≤ version_at_end plan records
below_next plan records r p less =
    omega (
      arith,
      rises plan (records ++ r ∷ []) p (length records) (omega (arith, less, length_push records r)),
      before plan records (r ∷ []) (length records) (omega arith),
    )

-- those after that of the version in force
behind_blank : (plan : PlanFields) (k pid : ℕ) (records : List Record) (parts : AreParted plan k pid (version_at_end plan records)) (x : ℕ) → is_in x parts.behind ≡ true
    → IsBlank plan k x records
behind_blank plan k pid records parts x there = not_yet plan k x records (version_at_end plan records) (below_end plan records) (parts.later x there)

behind_blank_next : (plan : PlanFields) (k pid : ℕ) (records : List Record) (r : Record) (parts : AreParted plan k pid (version_at_end plan records)) (x : ℕ) → is_in x parts.behind ≡ true
    → IsBlank plan k x (records ++ r ∷ [])
behind_blank_next plan k pid records r parts x there = not_yet plan k x (records ++ r ∷ []) (version_at_end plan records) (below_next plan records r) (parts.later x there)

in_force : (plan : PlanFields) (k pid : ℕ) (records : List Record) → has_wrong_change plan ≡ false → pid_in_force plan k records ≡ Some pid → AreParted plan k pid (version_at_end plan records)
in_force plan k pid records right on = are_parted plan k pid (version_at_end plan records) right (most plan records (length records)) on

-- so it is of a PID that comes later
is_behind : (plan : PlanFields) (k pid version : ℕ) → version ≤ length plan.changes → (to_come : ComesLater plan k pid version) (parts : AreParted plan k to_come.other version)
    → is_in pid parts.behind ≡ true
is_behind plan k pid version within to_come parts =
    parts.comes pid to_come.later to_come.above to_come.within to_come.has_it (ne_eqb pid to_come.other (λ same. to_come.differs (sym same)))

pub to_come_blank : (plan : PlanFields) (k pid : ℕ) (records : List Record) → has_wrong_change plan ≡ false → ComesLater plan k pid (version_at_end plan records) → IsBlank plan k pid records
to_come_blank plan k pid records right to_come =
    let parts = in_force plan k to_come.other records right to_come.has_other in
    behind_blank plan k to_come.other records parts pid (is_behind plan k pid (version_at_end plan records) (most plan records (length records)) to_come parts)

pub to_come_blank_next : (plan : PlanFields) (k pid : ℕ) (records : List Record) (r : Record) → has_wrong_change plan ≡ false → ComesLater plan k pid (version_at_end plan records)
    → IsBlank plan k pid (records ++ r ∷ [])
to_come_blank_next plan k pid records r right to_come =
    let parts = in_force plan k to_come.other records right to_come.has_other in
    behind_blank_next plan k to_come.other records r parts pid (is_behind plan k pid (version_at_end plan records) (most plan records (length records)) to_come parts)

-- where the service moves, it comes to its new PID
moves : (plan : PlanFields) (k old new : ℕ) (records : List Record) (r : Record) → pid_in_force plan k records ≡ Some old → pid_in_force plan k (records ++ r ∷ []) ≡ Some new → new ≢ old
    → ComesLater plan k new (version_at_end plan records)
moves plan k old new records r on on_then differs = record {
  other = old;
  later = version_at_end plan (records ++ r ∷ []);
  has_other = on;
  differs = λ same. differs (sym same);
  above = omega (arith, rises_at_end plan records r, other_version);
  within = most plan (records ++ r ∷ []) (length (records ++ r ∷ []));
  has_it = on_then;
}
  where
    other_version : version_at_end plan records ≡ version_at_end plan (records ++ r ∷ []) → ⊥
    other_version same =
        let pids : Some new ≡ Some old = sym on_then ∙ ap (λ (v : ℕ). pid_in plan v k) (sym same) ∙ on in
        differs (cc (pids))

pub moved_blank : (plan : PlanFields) (k old new : ℕ) (records : List Record) (r : Record) → has_wrong_change plan ≡ false
    → pid_in_force plan k records ≡ Some old → pid_in_force plan k (records ++ r ∷ []) ≡ Some new → new ≢ old → IsBlank plan k new (records ++ r ∷ [])
moved_blank plan k old new records r right on on_then differs = to_come_blank_next plan k new records r right (moves plan k old new records r on on_then differs)

pub first_blank : (plan : PlanFields) (k pid : ℕ) → IsBlank plan k pid []
first_blank plan k pid = blank_where plan k pid [] (λ p less. absurd (omega (arith, less)))

-- What is told.

pub told_none : (plan : PlanFields) (k : ℕ) → told_of plan k [] ≡ []
told_none plan k =
    flat_none (told_on plan k []) (pids_in plan k) (λ pid there. told_nothing (takes_no_more plan [] k pid) plan.recording (service_on plan k pid))

-- Where a span has ended.

pub not_ended : (plan : PlanFields) (k pid : ℕ) (records : List Record) → pid_in_force plan k records ≡ Some pid → takes_no_more plan records k pid ≡ false
not_ended plan k pid records on = ap (λ (o : Option ℕ). not (has_pid o pid)) on ∙ ap not (eq-eqb pid pid refl)

pub ended_elsewhere : (plan : PlanFields) (k pid other : ℕ) (records : List Record) → pid_in_force plan k records ≡ Some other → eqb other pid ≡ false → takes_no_more plan records k pid ≡ true
ended_elsewhere plan k pid other records on differs = ap (λ (o : Option ℕ). not (has_pid o pid)) on ∙ ap not differs

pub ended_nowhere : (plan : PlanFields) (k pid : ℕ) (records : List Record) → pid_in_force plan k records ≡ None → takes_no_more plan records k pid ≡ true
ended_nowhere plan k pid records none = ap (λ (o : Option ℕ). not (has_pid o pid)) none

-- ended or not, a span tells what it told before, and what that closes
ended_or_not : (ended : Bool) (plan : PlanFields) (k pid : ℕ) (records : List Record)
    → tells ended plan k records pid ≡ tells false plan k records pid ++ cond ended (closed_on plan k pid records) []
ended_or_not true plan k pid records = told_end plan.recording (service_on plan k pid) (span_of plan k pid records)
ended_or_not false plan k pid records = sym (append-nil (tells false plan k records pid))

-- on the PID in force
told_next : (plan : PlanFields) (k pid : ℕ) (records : List Record) (r : Record) → pid_in_force plan k records ≡ Some pid
    → told_on plan k (records ++ r ∷ []) pid ≡ told_on plan k records pid ++ given_on plan k pid records r
told_next plan k pid records r on =
    ended_or_not (takes_no_more plan (records ++ r ∷ []) k pid) plan k pid (records ++ r ∷ [])
    ∙ ap (λ (t : List (List ℕ)). t ++ closed_by_move plan k pid records r)
    (ap (told_by false plan.recording (service_on plan k pid)) (span_heard plan k pid records r on)
    ∙ told_more plan.recording (service_on plan k pid) (span_of plan k pid records) r)
    ∙ append_assoc (tells false plan k records pid) (added_on plan k pid records r) (closed_by_move plan k pid records r)
    ∙ ap (λ (b : Bool). tells b plan k records pid ++ given_on plan k pid records r) (sym (not_ended plan k pid records on))

module _ (plan : PlanFields) (k pid : ℕ) (records : List Record) (right : has_wrong_change plan ≡ false) (on : pid_in_force plan k records ≡ Some pid) where
  parts : AreParted plan k pid (version_at_end plan records)
  parts = in_force plan k pid records right on

  -- the PIDs up to that in force tell all
  abbrev told_before : List Record → List (List ℕ)
  told_before others = flat_map (told_on plan k others) parts.before

  told_parts : (others : List Record) → ((x : ℕ) → is_in x parts.behind ≡ true → IsBlank plan k x others) → told_of plan k others ≡ told_before others ++ told_on plan k others pid
  told_parts others blank =
      ap (flat_map (told_on plan k others)) parts.whole
      ∙ flat_map-append (told_on plan k others) parts.before (pid ∷ parts.behind)
      ∙ ap (λ (t : List (List ℕ)). told_before others ++ (told_on plan k others pid ++ t))
      (flat_none (told_on plan k others) parts.behind (λ x there. (blank x there).told (takes_no_more plan others k x)))
      ∙ ap (λ (t : List (List ℕ)). told_before others ++ t) (append-nil (told_on plan k others pid))

  -- what the end adds, that PID does
  delivered_parts : delivered_of plan k records ≡ told_before records ++ tells true plan k records pid
  delivered_parts =
      ap (flat_map (delivered_on plan k records)) parts.whole
      ∙ flat_map-append (delivered_on plan k records) parts.before (pid ∷ parts.behind)
      ∙ ap₂ (λ (s t : List (List ℕ)). s ++ (tells true plan k records pid ++ t))
      (flat_same (delivered_on plan k records) (told_on plan k records) parts.before
      (λ x there. ap (λ (b : Bool). tells b plan k records x) (sym (ended_elsewhere plan k x pid records on (parts.others x there)))))
      (flat_none (delivered_on plan k records) parts.behind (λ x there. (behind_blank plan k pid records parts x there).told true))
      ∙ ap (λ (t : List (List ℕ)). told_before records ++ t) (append-nil (tells true plan k records pid))

  told_at_end : delivered_of plan k records ≡ told_of plan k records ++ closed_on plan k pid records
  told_at_end =
      delivered_parts
      ∙ ap (λ (t : List (List ℕ)). told_before records ++ t) (told_end plan.recording (service_on plan k pid) (span_of plan k pid records))
      ∙ sym (append_assoc (told_before records) (tells false plan k records pid) (closed_on plan k pid records))
      ∙ ap (λ (b : Bool). (told_before records ++ tells b plan k records pid) ++ closed_on plan k pid records) (sym (not_ended plan k pid records on))
      ∙ ap (λ (t : List (List ℕ)). t ++ closed_on plan k pid records) (sym (told_parts records (behind_blank plan k pid records parts)))

  module _ (r : Record) where
    -- the PIDs before are not taken again
    not_again : (x : ℕ) → is_in x parts.before ≡ true → pid_in_force plan k (records ++ r ∷ []) ≡ Some x → ⊥
    not_again x there on_then = by_order (cases_lt (version_at_end plan records) (version_at_end plan (records ++ r ∷ [])))
      where
        absent : is_in x parts.behind ≡ false
        absent =
            (or_parts (eqb x pid) (is_in x parts.behind)
            ((twice_parts parts.before (pid ∷ parts.behind) (sym (ap twice parts.whole) ∙ once plan k right)).1 x there)).1

        by_order : (version_at_end plan records < version_at_end plan (records ++ r ∷ [])) ⊎ (version_at_end plan (records ++ r ∷ []) ≤ version_at_end plan records) → ⊥
        by_order (inl rises) =
            let never : true ≡ false =
            sym (parts.comes x (version_at_end plan (records ++ r ∷ [])) rises (most plan (records ++ r ∷ []) (length (records ++ r ∷ []))) on_then
            (other_way pid x (parts.others x there))) ∙ absent in
            absurd (cc (never))
        by_order (inr stays) =
            let same : version_at_end plan (records ++ r ∷ []) ≡ version_at_end plan records = omega (arith, stays, rises_at_end plan records r) in
            let pids : Some pid ≡ Some x = sym on ∙ ap (λ (v : ℕ). pid_in plan v k) (sym same) ∙ on_then in
            let is : pid ≡ x = cc (pids) in
            let never : true ≡ false = sym (eq-eqb pid x is) ∙ parts.others x there in
            absurd (cc (never))

    before_ended : (x : ℕ) → is_in x parts.before ≡ true → takes_no_more plan (records ++ r ∷ []) k x ≡ true
    before_ended x there = by_force (pid_in_force plan k (records ++ r ∷ [])) refl
      where
        by_own : (own : ℕ) → pid_in_force plan k (records ++ r ∷ []) ≡ Some own → (b : Bool) → eqb own x ≡ b → takes_no_more plan (records ++ r ∷ []) k x ≡ true
        by_own own is true same = absurd (not_again x there (is ∙ ap (λ (n : ℕ). Some n) (eqb-true own x same)))
        by_own own is false differs = ended_elsewhere plan k x own (records ++ r ∷ []) is differs

        by_force : (o : Option ℕ) → pid_in_force plan k (records ++ r ∷ []) ≡ o → takes_no_more plan (records ++ r ∷ []) k x ≡ true
        by_force None is = ended_nowhere plan k x (records ++ r ∷ []) is
        by_force (Some own) is = by_own own is (eqb own x) refl

    before_same : told_before (records ++ r ∷ []) ≡ told_before records
    before_same =
        flat_same (told_on plan k (records ++ r ∷ [])) (told_on plan k records) parts.before
        (λ x there.
        ap (λ (b : Bool). tells b plan k (records ++ r ∷ []) x) (before_ended x there)
        ∙ told_same true plan k x records r (inl (not_heard plan k x pid records on (parts.others x there)))
        ∙ ap (λ (b : Bool). tells b plan k records x) (sym (ended_elsewhere plan k x pid records on (parts.others x there))))

    told_more_on : told_of plan k (records ++ r ∷ []) ≡ told_of plan k records ++ given_on plan k pid records r
    told_more_on =
        told_parts (records ++ r ∷ []) (behind_blank_next plan k pid records r parts)
        ∙ ap₂ (λ (s t : List (List ℕ)). s ++ t) before_same (told_next plan k pid records r on)
        ∙ sym (append_assoc (told_before records) (told_on plan k records pid) (given_on plan k pid records r))
        ∙ ap (λ (t : List (List ℕ)). t ++ given_on plan k pid records r) (sym (told_parts records (behind_blank plan k pid records parts)))

pub told_by_record : (plan : PlanFields) (k pid : ℕ) (records : List Record) (r : Record) → has_wrong_change plan ≡ false → pid_in_force plan k records ≡ Some pid
    → told_of plan k (records ++ r ∷ []) ≡ told_of plan k records ++ given_on plan k pid records r
told_by_record plan k pid records r right on = told_more_on plan k pid records right on r

-- what is told more, a record gives
pub given_is : (plan : PlanFields) (k : ℕ) (records : List Record) (r : Record) (added : List (List ℕ)) → told_of plan k (records ++ r ∷ []) ≡ told_of plan k records ++ added
    → given_by_record plan k (records ++ r ∷ []) (length records) ≡ added
given_is plan k records r added more =
    let whole : take (length records + 1) (records ++ r ∷ []) ≡ records ++ r ∷ [] = take_all (length records + 1) (records ++ r ∷ []) (omega (arith, length_push records r)) in
    ap (λ (t : List Record). drop (length (told_of plan k t)) (told_of plan k (take (length records + 1) (records ++ r ∷ [])))) (take_at records (r ∷ []) (length records) refl)
    ∙ ap (λ (t : List Record). drop (length (told_of plan k records)) (told_of plan k t)) whole
    ∙ ap (drop (length (told_of plan k records))) more
    ∙ drop_at (told_of plan k records) added (length (told_of plan k records)) refl

pub record_gives : (plan : PlanFields) (k pid : ℕ) (records : List Record) (r : Record) → has_wrong_change plan ≡ false → pid_in_force plan k records ≡ Some pid
    → given_by_record plan k (records ++ r ∷ []) (length records) ≡ given_on plan k pid records r
record_gives plan k pid records r right on = given_is plan k records r (given_on plan k pid records r) (told_by_record plan k pid records r right on)

-- where the service stays, and where it moves
pub given_stays : (plan : PlanFields) (k pid : ℕ) (records : List Record) (r : Record) → pid_in_force plan k (records ++ r ∷ []) ≡ Some pid
    → given_on plan k pid records r ≡ added_on plan k pid records r
given_stays plan k pid records r on_then =
    ap (λ (b : Bool). added_on plan k pid records r ++ cond b (closed_on plan k pid (records ++ r ∷ [])) []) (not_ended plan k pid (records ++ r ∷ []) on_then)
    ∙ append-nil (added_on plan k pid records r)

pub given_moves : (plan : PlanFields) (k pid new : ℕ) (records : List Record) (r : Record) → pid_in_force plan k (records ++ r ∷ []) ≡ Some new → new ≢ pid
    → given_on plan k pid records r ≡ added_on plan k pid records r ++ closed_on plan k pid (records ++ r ∷ [])
given_moves plan k pid new records r on_then differs =
    ap (λ (b : Bool). added_on plan k pid records r ++ cond b (closed_on plan k pid (records ++ r ∷ [])) [])
    (ended_elsewhere plan k pid new (records ++ r ∷ []) on_then (ne_eqb new pid differs))

pub off_added : (plan : PlanFields) (k pid : ℕ) (records : List Record) (r : Record) → is_on pid r ≡ false → added_on plan k pid records r ≡ []
off_added plan k pid records r off = none_added plan.recording (service_on plan k pid) pid (pid_or_none _ pid) (span_of plan k pid records) r off

pub off_given : (plan : PlanFields) (k pid : ℕ) (records : List Record) (r : Record) → is_on pid r ≡ false → given_on plan k pid records r ≡ closed_by_move plan k pid records r
off_given plan k pid records r off = ap (λ (t : List (List ℕ)). t ++ closed_by_move plan k pid records r) (off_added plan k pid records r off)

pub closed_stays : (plan : PlanFields) (k pid : ℕ) (records : List Record) (r : Record) → is_on pid r ≡ false → closed_on plan k pid (records ++ r ∷ []) ≡ closed_on plan k pid records
closed_stays plan k pid records r off = closed_same plan k pid records r (inr off)

pub move_gives : (plan : PlanFields) (k old new : ℕ) (records : List Record) (r : Record) → has_wrong_change plan ≡ false
    → pid_in_force plan k records ≡ Some old → pid_in_force plan k (records ++ r ∷ []) ≡ Some new → new ≢ old → is_on old r ≡ false
    → given_by_record plan k (records ++ r ∷ []) (length records) ≡ closed_on plan k old records
move_gives plan k old new records r right on on_then differs off =
    record_gives plan k old records r right on
    ∙ given_moves plan k old new records r on_then differs
    ∙ ap₂ (λ (s t : List (List ℕ)). s ++ t) (off_added plan k old records r off) (closed_stays plan k old records r off)

-- A record that is no packet of the PID in force, and leaves it in force.

abbrev pub IsOther : PlanFields → ℕ → List Record → Record → Type 0
IsOther plan k records r = (pid : ℕ) → pid_in_force plan k records ≡ Some pid → is_on pid r ≡ false

is_off : (plan : PlanFields) (k : ℕ) (records : List Record) (r : Record) → IsOther plan k records r → (pid : ℕ) → IsOff plan k pid records r
is_off plan k records r other pid = by_force (pid_in_force plan k records) refl
  where
    by_own : (own : ℕ) → pid_in_force plan k records ≡ Some own → (b : Bool) → eqb own pid ≡ b → IsOff plan k pid records r
    by_own own is true same = inr (other pid (is ∙ ap (λ (n : ℕ). Some n) (eqb-true own pid same)))
    by_own own is false differs = inl (not_heard plan k pid own records is differs)

    by_force : (o : Option ℕ) → pid_in_force plan k records ≡ o → IsOff plan k pid records r
    by_force None is = inl (ap (λ (o : Option ℕ). has_pid o pid) is)
    by_force (Some own) is = by_own own is (eqb own pid) refl

pub told_by_other : (plan : PlanFields) (k : ℕ) (records : List Record) (r : Record) → IsOther plan k records r
    → pid_in_force plan k (records ++ r ∷ []) ≡ pid_in_force plan k records → told_of plan k (records ++ r ∷ []) ≡ told_of plan k records
told_by_other plan k records r other stays =
    flat_same (told_on plan k (records ++ r ∷ [])) (told_on plan k records) (pids_in plan k)
    (λ pid there.
    ap (λ (o : Option ℕ). tells (not (has_pid o pid)) plan k (records ++ r ∷ []) pid) stays
    ∙ told_same (takes_no_more plan records k pid) plan k pid records r (is_off plan k records r other pid))

pub given_by_other : (plan : PlanFields) (k : ℕ) (records : List Record) (r : Record) → IsOther plan k records r
    → pid_in_force plan k (records ++ r ∷ []) ≡ pid_in_force plan k records → given_by_record plan k (records ++ r ∷ []) (length records) ≡ []
given_by_other plan k records r other stays =
    given_is plan k records r [] (told_by_other plan k records r other stays ∙ sym (append-nil (told_of plan k records)))

-- Whatever the record.

-- a service that has no PID tells nothing more
nobody : (plan : PlanFields) (k : ℕ) (records : List Record) (r : Record) → pid_in_force plan k records ≡ None → told_of plan k (records ++ r ∷ []) ≡ told_of plan k records
nobody plan k records r none =
    told_by_other plan k records r other (none_stays plan (version_at_end plan records) (version_at_end plan (records ++ r ∷ [])) k none ∙ sym none)
  where
    other : IsOther plan k records r
    other pid on =
        let never : None ≡ Some pid = sym none ∙ on in
        absurd (cc (never))

pub nobody_gives : (plan : PlanFields) (k : ℕ) (records : List Record) (r : Record) → pid_in_force plan k records ≡ None → given_by_record plan k (records ++ r ∷ []) (length records) ≡ []
nobody_gives plan k records r none = given_is plan k records r [] (nobody plan k records r none ∙ sym (append-nil (told_of plan k records)))

pub told_stays : (plan : PlanFields) (k : ℕ) (records : List Record) (r : Record) → has_wrong_change plan ≡ false
    → told_of plan k (records ++ r ∷ []) ≡ told_of plan k records ++ given_by_record plan k (records ++ r ∷ []) (length records)
told_stays plan k records r right = by_force (pid_in_force plan k records) refl
  where
    told_and_given : (added : List (List ℕ)) → told_of plan k (records ++ r ∷ []) ≡ told_of plan k records ++ added
        → told_of plan k (records ++ r ∷ []) ≡ told_of plan k records ++ given_by_record plan k (records ++ r ∷ []) (length records)
    told_and_given added more = more ∙ ap (λ (t : List (List ℕ)). told_of plan k records ++ t) (sym (given_is plan k records r added more))

    by_force : (o : Option ℕ) → pid_in_force plan k records ≡ o
        → told_of plan k (records ++ r ∷ []) ≡ told_of plan k records ++ given_by_record plan k (records ++ r ∷ []) (length records)
    by_force None none = told_and_given [] (nobody plan k records r none ∙ sym (append-nil (told_of plan k records)))
    by_force (Some pid) on = told_and_given (given_on plan k pid records r) (told_by_record plan k pid records r right on)

-- Where the recording ends.

end_is : (plan : PlanFields) (k : ℕ) (records : List Record) (added : List (List ℕ)) → delivered_of plan k records ≡ told_of plan k records ++ added → given_by_end plan k records ≡ added
end_is plan k records added more =
    ap (drop (length (told_of plan k records))) more ∙ drop_at (told_of plan k records) added (length (told_of plan k records)) refl

pub end_on : (plan : PlanFields) (k pid : ℕ) (records : List Record) → has_wrong_change plan ≡ false → pid_in_force plan k records ≡ Some pid
    → given_by_end plan k records ≡ closed_on plan k pid records
end_on plan k pid records right on = end_is plan k records (closed_on plan k pid records) (told_at_end plan k pid records right on)

without_pid : (plan : PlanFields) (k : ℕ) (records : List Record) → pid_in_force plan k records ≡ None → delivered_of plan k records ≡ told_of plan k records
without_pid plan k records none =
    flat_same (delivered_on plan k records) (told_on plan k records) (pids_in plan k)
    (λ pid there. ap (λ (b : Bool). tells b plan k records pid) (sym (ended_nowhere plan k pid records none)))

pub end_without_pid : (plan : PlanFields) (k : ℕ) (records : List Record) → pid_in_force plan k records ≡ None → given_by_end plan k records ≡ []
end_without_pid plan k records none = end_is plan k records [] (without_pid plan k records none ∙ sym (append-nil (told_of plan k records)))

pub all_at_end : (plan : PlanFields) (k : ℕ) (records : List Record) → has_wrong_change plan ≡ false → delivered_of plan k records ≡ told_of plan k records ++ given_by_end plan k records
all_at_end plan k records right = by_force (pid_in_force plan k records) refl
  where
    told_and_given : (added : List (List ℕ)) → delivered_of plan k records ≡ told_of plan k records ++ added
        → delivered_of plan k records ≡ told_of plan k records ++ given_by_end plan k records
    told_and_given added more = more ∙ ap (λ (t : List (List ℕ)). told_of plan k records ++ t) (sym (end_is plan k records added more))

    by_force : (o : Option ℕ) → pid_in_force plan k records ≡ o → delivered_of plan k records ≡ told_of plan k records ++ given_by_end plan k records
    by_force None none = told_and_given [] (without_pid plan k records none ∙ sym (append-nil (told_of plan k records)))
    by_force (Some pid) on = told_and_given (closed_on plan k pid records) (told_at_end plan k pid records right on)
