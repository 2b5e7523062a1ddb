-- What changes leave as it is: all of a service but its PID and its rules.
use Rattle.std.proofs.Common.{◌≡◌, ℕ, Bool, not, ◌&&◌, ◌||◌, List, [], ◌∷◌, length, map, fold, take, get_or, Option, Some, None, refl, ap, ap₂, sym, ◌∙◌, cond}
use Rattle.std.specs.Prelude.{nat_lt, nat_le, bytes_eq, is_some, ◌*◌, ◌-◌, ◌+◌, ◌/◌}
use Rattle.std.specs.List.{list_all, list_any, filter_map}
use Rattle.std.proofs.Math.Seq.{map-set_same}
use Rattle.std.proofs.lemmas.List.{length-set}
use Rattle.plan_spec.specs.Plan.{KindFields, ule, mpe, fec, gse, ServiceFields, MovedFields, ChangeFields, PlanFields, SlicedFields, isi_of, sliced_of, sliced, isis, is_baseband}
use Rattle.plan_spec.specs.Checks.{has_pair, is_gse, is_plain, has_wrong_carrier, has_same_name, needs_stamps, is_wrong_window, overlaps, has_wrong_window, has_short_gap, has_long_cycle}
use Rattle.plan_spec.specs.Changes.{with_pid, moved_to, no_service, with_moved, with_change, services_in, plan_in}
use Rattle.plan_law.proofs.Lists.{all_by, any_by, some_by}

-- what no move of a service changes
pub record StaysSame {X : Type 0} (part : ServiceFields → X) : Type 0 where
  pub same : (service : ServiceFields) (moved : MovedFields) → part (moved_to service moved) ≡ part service

pub by_moved : {X : Type 0} (part : ServiceFields → X) → StaysSame part → (services : List ServiceFields) (moved : MovedFields)
    → map part (with_moved services moved) ≡ map part services
by_moved part stays services moved =
    map-set_same part services moved.service (moved_to (get_or services moved.service no_service) moved) no_service
    (stays.same (get_or services moved.service no_service) moved)

pub by_moves : {X : Type 0} (part : ServiceFields → X) → StaysSame part → (services : List ServiceFields) (moves : List MovedFields)
    → map part (fold with_moved services moves) ≡ map part services
by_moves part stays services [] = refl
by_moves part stays services (moved ∷ moves) = by_moves part stays (with_moved services moved) moves ∙ by_moved part stays services moved

by_changes : {X : Type 0} (part : ServiceFields → X) → StaysSame part → (services : List ServiceFields) (changes : List ChangeFields)
    → map part (fold with_change services changes) ≡ map part services
by_changes part stays services [] = refl
by_changes part stays services (change ∷ changes) = by_changes part stays (with_change services change) changes ∙ by_moves part stays services change.moved

-- in each version it is as it was
pub kept : {X : Type 0} (part : ServiceFields → X) → StaysSame part → (plan : PlanFields) (version : ℕ)
    → map part (services_in plan version) ≡ map part plan.services
kept part stays plan version = by_changes part stays plan.services (take version plan.changes)

-- The number of services.

length-with_moves : (services : List ServiceFields) (moves : List MovedFields) → length (fold with_moved services moves) ≡ length services
length-with_moves services [] = refl
length-with_moves services (moved ∷ moves) =
    length-with_moves (with_moved services moved) moves ∙ length-set services moved.service (moved_to (get_or services moved.service no_service) moved)

length-with_changes : (services : List ServiceFields) (changes : List ChangeFields) → length (fold with_change services changes) ≡ length services
length-with_changes services [] = refl
length-with_changes services (change ∷ changes) = length-with_changes (with_change services change) changes ∙ length-with_moves services change.moved

pub length-services_in : (plan : PlanFields) (version : ℕ) → length (services_in plan version) ≡ length plan.services
length-services_in plan version = length-with_changes plan.services (take version plan.changes)

-- What stays: the name, and of the kind all but its PID.

pub name_stays : StaysSame (λ (s : ServiceFields). s.name)
name_stays = record { same = λ service moved. refl }

gse_again : (kind : KindFields) (pid : ℕ) → is_gse (with_pid kind pid) ≡ is_gse kind
gse_again (ule old address packing) pid = refl
gse_again (mpe old) pid = refl
gse_again (fec old rows parity window) pid = refl
gse_again (gse isi address) pid = refl

pub gse_stays : StaysSame (λ (s : ServiceFields). is_gse s.kind)
gse_stays = record { same = λ service moved. gse_again service.kind moved.pid }

isi_again : (kind : KindFields) (pid : ℕ) → isi_of (with_pid kind pid) ≡ isi_of kind
isi_again (ule old address packing) pid = refl
isi_again (mpe old) pid = refl
isi_again (fec old rows parity window) pid = refl
isi_again (gse isi address) pid = refl

isi_stays : StaysSame (λ (s : ServiceFields). isi_of s.kind)
isi_stays = record { same = λ service moved. isi_again service.kind moved.pid }

sliced_again : (kind : KindFields) (pid : ℕ) → sliced_of (with_pid kind pid) ≡ sliced_of kind
sliced_again (ule old address packing) pid = refl
sliced_again (mpe old) pid = refl
sliced_again (fec old rows parity None) pid = refl
sliced_again (fec old rows parity (Some window)) pid = refl
sliced_again (gse isi address) pid = refl

sliced_stays : StaysSame (λ (s : ServiceFields). sliced_of s.kind)
sliced_stays = record { same = λ service moved. sliced_again service.kind moved.pid }

abbrev kind_part : ServiceFields → KindFields
kind_part service = service.kind

-- The checks over the whole of which no version differs.

module _ (plan : PlanFields) (version : ℕ) where
  pub sliced_kept : sliced (plan_in plan version) ≡ sliced plan
  sliced_kept =
      some_by sliced_of kind_part (services_in plan version)
      ∙ ap (λ (l : List (Option SlicedFields)). filter_map (λ o. o) l) (kept (λ (s : ServiceFields). sliced_of s.kind) sliced_stays plan version)
      ∙ sym (some_by sliced_of kind_part plan.services)

  pub isis_kept : isis (plan_in plan version) ≡ isis plan
  isis_kept =
      some_by isi_of kind_part (services_in plan version)
      ∙ ap (λ (l : List (Option ℕ)). filter_map (λ o. o) l) (kept (λ (s : ServiceFields). isi_of s.kind) isi_stays plan version)
      ∙ sym (some_by isi_of kind_part plan.services)

  all_gse : list_all is_gse (map kind_part (services_in plan version)) ≡ list_all is_gse (map kind_part plan.services)
  all_gse =
      all_by is_gse kind_part (services_in plan version)
      ∙ ap (list_all (λ (b : Bool). b)) (kept (λ (s : ServiceFields). is_gse s.kind) gse_stays plan version)
      ∙ sym (all_by is_gse kind_part plan.services)

  any_gse : list_any is_gse (map kind_part (services_in plan version)) ≡ list_any is_gse (map kind_part plan.services)
  any_gse =
      any_by is_gse kind_part (services_in plan version)
      ∙ ap (list_any (λ (b : Bool). b)) (kept (λ (s : ServiceFields). is_gse s.kind) gse_stays plan version)
      ∙ sym (any_by is_gse kind_part plan.services)

  pub carrier_kept : has_wrong_carrier (plan_in plan version) ≡ has_wrong_carrier plan
  carrier_kept =
      ap₂ (λ (all any : Bool). cond (is_baseband plan) (not all || (is_some plan.table || not (is_plain plan.recording))) any) all_gse any_gse

  pub name_kept : has_same_name (plan_in plan version) ≡ has_same_name plan
  name_kept = ap (λ (l : List (List ℕ)). has_pair bytes_eq l) (kept (λ (s : ServiceFields). s.name) name_stays plan version)

  pub stamps_kept : needs_stamps (plan_in plan version) ≡ needs_stamps plan
  stamps_kept = ap (λ (l : List SlicedFields). nat_lt 0 (length l) && is_plain plan.recording) sliced_kept

  pub window_kept : (table_packets : ℕ) → has_wrong_window table_packets (plan_in plan version) ≡ has_wrong_window table_packets plan
  window_kept table_packets =
      ap (λ (l : List SlicedFields). nat_le plan.cycle table_packets || (list_any (is_wrong_window table_packets plan) l || has_pair overlaps l)) sliced_kept

  pub gap_kept : has_short_gap (plan_in plan version) ≡ has_short_gap plan
  gap_kept = ap (λ (l : List SlicedFields). list_any (λ (s : SlicedFields). nat_lt ((plan.cycle - s.length) * 1000000 / plan.packet_rate) 10000) l) sliced_kept

  pub cycle_kept : has_long_cycle (plan_in plan version) ≡ has_long_cycle plan
  cycle_kept = ap (λ (l : List SlicedFields). nat_lt 0 (length l) && nat_lt 40959999 ((plan.cycle * 1000000 + plan.packet_rate - 1) / plan.packet_rate)) sliced_kept
