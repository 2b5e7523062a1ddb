use Rattle.slice_law.specs.Plans.{slicing_of}
use Rattle.slice_law.proofs.Checks.{sliceable}
use Rattle.slice_law.proofs.bursts.bursts_of_a_plan_are_timed.Goals as goal

pub returns-clause-sliceable : goal.returns-clause-sliceable
returns-clause-sliceable c = sliceable

pub returns-clause-timed : goal.returns-clause-timed
returns-clause-timed c = λ plan accepted k fields is.
    c.bursts_are_timed.ensures.timed (slicing_of plan fields) (sliceable plan accepted k fields is)

pub returns-clause-near : goal.returns-clause-near
returns-clause-near c = λ plan accepted k fields is cycle n below. (
  c.windows_leave_gaps.ensures.gap (slicing_of plan fields) (sliceable plan accepted k fields is) cycle n below,
  c.windows_leave_gaps.ensures.most (slicing_of plan fields) (sliceable plan accepted k fields is) cycle n,
)
