-- The windows of a plan: they have slots, and are short enough for what the INT says of them.
use Rattle.std.proofs.Common.{◌≡◌, ◌⊎◌, inl, inr, ℕ, ◌+◌, ◌-◌, ◌*◌, ◌/◌, ◌<◌, ◌≤◌, max, true, false, ◌||◌, sym, ap, ◌∙◌, arith, Some}
use Rattle.std.proofs.lemmas.Bool.{cases_lt}
use Rattle.std.proofs.lemmas.List.{length-map, get_or_past}
use Rattle.std.proofs.lemmas.Nat.{div-add-mod', mul-le}
use Rattle.std.proofs.Math.Nat.{add-mul}
use Rattle.plan_spec.specs.Plan.{mpe, ServiceFields, PlanFields, kinds, SlicedFields, sliced_of}
use Rattle.plan_spec.specs.Checks.{leaves_cycle, is_too_short, is_too_long}
use Rattle.plan_spec.specs.Signalling.{table_packets, burst_duration}
use Rattle.plan_spec.specs.Valid.{is_plan}
use Rattle.stream_spec.specs.Services.{kind_at}
use Rattle.slice_law.proofs.Checks.{neither, not_below, no_wrong_window, rate_above}
use Rattle.std.specs.Prelude.{length}

-- a quotient is small where the dividend is
small : (a r q : ℕ) → 0 < r → a ≤ q * r → a / r ≤ q
small a r q some le = by_order (cases_lt q (a / r))
  where
    by_order : (q < a / r) ⊎ (a / r ≤ q) → a / r ≤ q
    by_order (inr few) = few
    by_order (inl more) =
        absurd (omega (arith, div-add-mod' a r, mul-le (q + 1) r (a / r) r (omega (arith, more)) (omega arith), add-mul q 1 r, le, some))

module _ (plan : PlanFields) (accepted : is_plan plan ≡ true) (k : ℕ) (fields : SlicedFields) (is : sliced_of (kind_at plan k) ≡ Some fields) where
  rights : (is_too_short fields ≡ false) × (is_too_long plan fields ≡ false)
  rights =
      neither (is_too_short fields) (is_too_long plan fields)
      (neither (leaves_cycle (table_packets plan) plan fields) (is_too_short fields || is_too_long plan fields) (no_wrong_window plan accepted k fields is)).1

  pub some_slots : 1 ≤ fields.length
  some_slots = omega (arith, not_below (fields.length * 183) (4096 + fields.parity * (fields.rows + 16)) rights.0)

  pub short_burst : burst_duration plan.packet_rate fields.length ≤ 255
  short_burst = duration (fields.length * 1000000 / plan.packet_rate)
      (small (fields.length * 1000000) plan.packet_rate 5120000 (rate_above plan accepted) (not_below (5120000 * plan.packet_rate) (fields.length * 1000000) rights.1))
    where
      duration : (n : ℕ) → n ≤ 5120000 → (max n 1 - 1) / 20000 ≤ 255
      duration n le = omega (arith, le)

  -- the service is one of the plan
  pub known_there : k < length plan.services
  known_there = by_place (cases_lt k (length plan.services))
    where
      none : sliced_of (mpe 0) ≡ Some fields → k < length plan.services
      none e = absurd (cc)

      by_place : (k < length plan.services) ⊎ (length plan.services ≤ k) → k < length plan.services
      by_place (inl less) = less
      by_place (inr past) =
          none (ap sliced_of (sym (get_or_past (kinds plan) k (mpe 0) (omega (arith, past, length-map plan.services (λ (service : ServiceFields). service.kind))))) ∙ is)
