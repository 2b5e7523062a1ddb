-- The windows of a plan are such that bursts go out in them.
use Rattle.std.proofs.Common.{◌≡◌, ℕ, ◌+◌, ◌*◌, ◌/◌, ◌%◌, ◌<◌, ◌≤◌, true, List, [], refl, sym, ap, ◌∙◌, arith, Some}
use Rattle.std.specs.Prelude.{slice_index}
use Rattle.std.proofs.lemmas.Nat.{div-mul-add, mod-mul-add}
use Rattle.plan_spec.specs.Plan.{PlanFields, SlicedFields, sliced_of}
use Rattle.plan_spec.specs.Signalling.{table_packets}
use Rattle.plan_spec.specs.Valid.{is_plan}
use Rattle.stream_spec.specs.Services.{kind_at}
use Rattle.stream_spec.specs.Slots.{of_service}
use Rattle.slice_spec.specs.Windows.{owner_of}
use Rattle.stream_spec.specs.Windows.{windows_of, out_before, kept_for_bursts}
use Rattle.slice_law.proofs.Checks.{inside, shorter}
use Rattle.slice_law.proofs.PlanOwners.{owner_is, is_owned}
use Rattle.slice_law.proofs.Turned.{IsWindowed, kept_there}

module _ (plan : PlanFields) (accepted : is_plan plan ≡ true) (k : ℕ) (fields : SlicedFields) (is : sliced_of (kind_at plan k) ≡ Some fields)
    (sizes : ℕ → List ℕ) (fits : (c : ℕ) → slice_index (sizes k) c ≤ fields.length) where
  pub windowed : (packets : List ℕ) → slice_index packets k ≡ 0
      → IsWindowed plan.cycle (table_packets plan) (windows_of plan) sizes packets k fields.start fields.length
  windowed packets none = record {
    after_table = (inside plan accepted k fields is).0;
    inside = (inside plan accepted k fields is).1;
    some = omega (arith, shorter plan accepted);
    owned = λ o n place below. is_owned plan accepted o k n fields is place below;
    owner = owner;
    fits = fits;
    no_turns = none;
  }
    where
      owner : (o n : ℕ) → owner_of (windows_of plan) o ≡ Some (k, n) → (fields.start + n ≡ o) × (n < fields.length)
      owner o n e =
          let found : (f : SlicedFields) × (sliced_of (kind_at plan k) ≡ Some f) × (f.start + n ≡ o) × (n < f.length) = owner_is plan accepted o k n e in
          let same : found.0 ≡ fields = by_some found.0 (sym found.1 ∙ is) in
          (ap (λ (f : SlicedFields). f.start + n) (sym same) ∙ found.2, omega (arith, found.3, ap (λ (f : SlicedFields). f.length) same))
        where
          by_some : (f : SlicedFields) → Some f ≡ Some fields → f ≡ fields
          by_some f e2 = cc

  pub there : (c n : ℕ) → n < slice_index (sizes k) c
      → kept_for_bursts plan.cycle (table_packets plan) (windows_of plan) sizes (c * plan.cycle + fields.start + n) ≡ Some (of_service k (out_before (sizes k) c + n))
  there c n below =
      let window : fields.start + fields.length ≤ plan.cycle = (inside plan accepted k fields is).1 in
      let in_cycle : fields.start + n < plan.cycle = omega (arith, window, fits c, below) in
      let at : c * plan.cycle + fields.start + n ≡ c * plan.cycle + (fields.start + n) = omega arith in
      let q : (c * plan.cycle + fields.start + n) / plan.cycle ≡ c = ap (λ (m : ℕ). m / plan.cycle) at ∙ div-mul-add c plan.cycle (fields.start + n) in_cycle in
      let r : (c * plan.cycle + fields.start + n) % plan.cycle ≡ fields.start + n = ap (λ (m : ℕ). m % plan.cycle) at ∙ mod-mul-add c plan.cycle (fields.start + n) in_cycle in
      let held : slice_index (sizes k) ((c * plan.cycle + fields.start + n) / plan.cycle) ≡ slice_index (sizes k) c = ap (λ (m : ℕ). slice_index (sizes k) m) q in
      kept_there plan.cycle (table_packets plan) (windows_of plan) sizes [] k fields.start fields.length (windowed [] refl)
      (c * plan.cycle + fields.start + n) n (sym r) (omega (arith, below, held))
      ∙ ap (λ (m : ℕ). Some (of_service k (out_before (sizes k) m + n))) q
