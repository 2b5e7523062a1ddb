use Rattle.std.proofs.Common.{◌≡◌, ℕ, ◌≤◌, List, [], ◌∷◌, length, map, refl, ap, subst, arith}
use Rattle.int_spec.specs.Table.{EntryFields, TableFields, table_bytes, carried_with}
use Rattle.int_spec.specs.Reading.{IsInt}
use Rattle.plan_spec.specs.Plan.{ServiceFields, is_baseband}
use Rattle.plan_spec.specs.Signalling.{entry_of, table_of}
use Rattle.plan_spec.specs.Valid.{most_services}
use Rattle.stream_law.proofs.Plans.{at_least, ranges}
use Rattle.stream_law.proofs.table.the_table_reads_back_to_the_rules.Goals as goal

-- a table with entries is carried as it is
with_entries : (services : List ServiceFields) (rate : ℕ) (table : TableFields) → 1 ≤ length services → carried_with (map (entry_of rate) services) table ≡ table
with_entries [] rate table some = absurd (omega (arith, some))
with_entries (service ∷ services) rate table some = refl

same_rules : (rate : ℕ) (services : List ServiceFields) → map (λ (entry : EntryFields). entry.rules) (map (entry_of rate) services) ≡ map (λ (service : ServiceFields). service.rules) services
same_rules rate [] = refl
same_rules rate (service ∷ services) = ap (λ t. service.rules ∷ t) (same_rules rate services)

pub returns-clause-read : goal.returns-clause-read
returns-clause-read c = λ plan int accepted of_bytes is.
    subst (IsInt (table_bytes (table_of plan int)))
    (with_entries plan.services plan.packet_rate (table_of plan int) (at_least 1 (most_services (is_baseband plan)) (length plan.services) (ranges plan accepted).count))
    (c.a_written_table_reads_back.ensures.read (table_of plan int) (c.the_table_of_a_plan_can_be_written.ensures.writable plan int accepted of_bytes is))

pub returns-clause-rules : goal.returns-clause-rules
returns-clause-rules c = λ plan int. same_rules plan.packet_rate plan.services
