use Rattle.std.proofs.Common.{◌≡◌, ℕ, ◌+◌, ◌-◌, ◌*◌, ◌/◌, ◌<◌, ◌≤◌, ap₂, ◌∙◌, arith}
use Rattle.plan.specs.Parts.{form_of}
use Rattle.slice_spec.specs.Moments.{ten}
use Rattle.burst_packets.specs.declared.timing.Timing.{Timing}
use Rattle.burst_packets.proofs.Moments.{from_stream, sliceable_so, below, between_is, ten_most}
use Rattle.burst_packets.proofs.timing.Timing.delta_after.Goals as goal

few_tens : (sub tens : ℕ) → sub < 4096 * tens → tens ≤ 270000 → sub < 18446744073709551616
few_tens sub tens less most = omega (arith, less, most)

none_before : (n : ℕ) → n - 0 ≡ n
none_before n = omega arith

pub overflow_cast-saturating_sub : goal.overflow_cast-saturating_sub
overflow_cast-saturating_sub c =
    let timing : Timing = c.args.self.now in
    record {
      fits = few_tens c.saturating_sub.result (ten (form_of timing.recording))
          (below timing c.args.cycle c.args.packet c.from.result c.from-2.result c.moment-now.result c.moment-next.result c.saturating_sub.result
          c.from.ensures c.from-2.ensures c.moment-now.ensures.read c.moment-next.ensures.read c.saturating_sub.ensures
          (c.windows_leave_gaps.ensures.most (from_stream timing) (sliceable_so timing c.requires.sliceable) c.args.cycle c.args.packet))
          (ten_most (form_of timing.recording));
    }

pub delta-requires-clause-near : goal.delta-requires-clause-near
delta-requires-clause-near c =
    let timing : Timing = c.args.self.now in
    so c.saturating_sub.result (ten (form_of timing.recording)) c.from-ten.result (c.from-ten.ensures ∙ c.ten_milliseconds.ensures.read)
    (below timing c.args.cycle c.args.packet c.from.result c.from-2.result c.moment-now.result c.moment-next.result c.saturating_sub.result
    c.from.ensures c.from-2.ensures c.moment-now.ensures.read c.moment-next.ensures.read c.saturating_sub.ensures
    (c.windows_leave_gaps.ensures.most (from_stream timing) (sliceable_so timing c.requires.sliceable) c.args.cycle c.args.packet))
  where
    so : (sub tens count : ℕ) → count ≡ tens → sub < 4096 * tens → sub < 0 + 4096 * count
    so sub tens count is less = omega (arith, is, less)

pub returns-clause-read : goal.returns-clause-read
returns-clause-read c =
    let timing : Timing = c.args.self.now in
    c.delta.ensures.tens
    ∙ ap₂ (λ (m n : ℕ). m / n)
    (none_before c.saturating_sub.result
    ∙ between_is timing c.args.cycle c.args.packet c.from.result c.from-2.result c.moment-now.result c.moment-next.result c.saturating_sub.result
    c.from.ensures c.from-2.ensures c.moment-now.ensures.read c.moment-next.ensures.read c.saturating_sub.ensures)
    (c.from-ten.ensures ∙ c.ten_milliseconds.ensures.read)
