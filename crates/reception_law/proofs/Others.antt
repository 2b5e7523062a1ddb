-- Packets of no service and not of the INT, record by record.
use Rattle.std.proofs.Common.{◌≡◌, ℕ, ◌+◌, ◌≤◌, cond, List, [], ◌∷◌, ◌++◌, length, refl, ap, ap₂, ◌∙◌, arith}
use Rattle.ts_spec.specs.Recording.{Record}
use Rattle.plan_spec.specs.Plan.{PlanFields}
use Rattle.plan_spec.specs.Changes.{plan_in}
use Rattle.reception_spec.specs.Packets.{is_other}
use Rattle.reception_spec.specs.Spans.{version_at_place, version_at_end}
use Rattle.reception_spec.specs.Sums.{others_from}
use Rattle.reception_law.proofs.VersionInForce.{before}

-- one record counts this much, where this version is in force
abbrev other_by : PlanFields → Record → ℕ → ℕ
other_by plan r version = cond (is_other (plan_in plan version) r) 1 0

from_same : (plan : PlanFields) (all more : List Record) (place : ℕ) (records : List Record) → place + length records ≤ length all
    → others_from plan (all ++ more) place records ≡ others_from plan all place records
from_same plan all more place [] within = refl
from_same plan all more place (r ∷ records) within =
    ap₂ (λ (m n : ℕ). m + n) (ap (other_by plan r) (before plan all more place (omega (arith, within)))) (from_same plan all more (place + 1) records (omega (arith, within)))

from_behind : (plan : PlanFields) (all : List Record) (place end : ℕ) (records : List Record) (r : Record) → end ≡ place + length records
    → others_from plan all place (records ++ r ∷ []) ≡ others_from plan all place records + other_by plan r (version_at_place plan all end)
from_behind plan all place end [] r is =
    let here : place ≡ end = omega (arith, is) in
    let same : other_by plan r (version_at_place plan all place) ≡ other_by plan r (version_at_place plan all end) = ap (λ (n : ℕ). other_by plan r (version_at_place plan all n)) here in
    omega (arith, same)
from_behind plan all place end (x ∷ records) r is = omega (arith, from_behind plan all (place + 1) end records r (omega (arith, is)))

pub others_more : (plan : PlanFields) (records : List Record) (r : Record)
    → others_from plan (records ++ r ∷ []) 0 (records ++ r ∷ []) ≡ others_from plan records 0 records + other_by plan r (version_at_end plan records)
others_more plan records r =
    from_behind plan (records ++ r ∷ []) 0 (length records) records r (omega arith)
    ∙ ap₂ (λ (m n : ℕ). m + n) (from_same plan records (r ∷ []) 0 records (omega arith))
    (ap (other_by plan r) (before plan records (r ∷ []) (length records) (omega arith)))
