-- How the sliced services of a plan go out.
use Rattle.plan_spec.specs.Plan.{PlanFields, SlicedFields}
use Rattle.slice_spec.specs.Bursts.{Slicing}

-- how a sliced service of a plan goes out
abbrev pub slicing_of : PlanFields → SlicedFields → Slicing
slicing_of plan fields = record {
  form = plan.recording;
  rate = plan.packet_rate;
  cycle = plan.cycle;
  start = fields.start;
  length = fields.length;
}
