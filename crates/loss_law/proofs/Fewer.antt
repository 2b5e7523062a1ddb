-- A receiver of fewer PIDs.
use Rattle.std.proofs.Common.{ℕ, ◌<◌, List, length, refl}
use Rattle.std.specs.Prelude.{Contains}
use Rattle.ts_spec.specs.Recording.{Record}
use Rattle.channel_spec.specs.Channel.{Channel}
use Rattle.plan_spec.specs.Plan.{PlanFields}
use Rattle.plan_spec.specs.Changes.{pids_in, all_pids}
use Rattle.loss_law.specs.Spans.{IsSameChannel}
use Rattle.loss_law.proofs.Pids.{own_read}

pub fewer : (pids some : List ℕ) (sent recorded : List Record) → Channel pids sent recorded → ((pid : ℕ) → Contains some pid → Contains pids pid) → Channel some sent recorded
fewer pids some sent recorded channel read = record {
  place = channel.place;
  first = channel.first;
  within = channel.within;
  in_order = channel.in_order;
  behind = channel.behind;
  no_copy = channel.no_copy;
  same_place = channel.same_place;
  kept = channel.kept;
  same = channel.same;
  alone = λ pid copy other there. channel.alone pid copy other (read pid there);
  foreign = λ j low inserted pid there. channel.foreign j low inserted pid (read pid there);
}

pub channel_for : (plan : PlanFields) (sent recorded : List Record) → Channel (all_pids plan) sent recorded → (k : ℕ) → k < length plan.services → Channel (pids_in plan k) sent recorded
channel_for plan sent recorded channel k known =
    fewer (all_pids plan) (pids_in plan k) sent recorded channel (λ pid there. own_read plan k pid (record { service = known; own = there }))

-- and each record comes from the same place
pub fewer_same : (pids some : List ℕ) (sent recorded : List Record) (channel : Channel pids sent recorded) (read : (pid : ℕ) → Contains some pid → Contains pids pid)
    → IsSameChannel channel (fewer pids some sent recorded channel read)
unfolding fewer
fewer_same pids some sent recorded channel read = record { place = λ j. refl; first = λ j. refl }

pub own_same : (plan : PlanFields) (sent recorded : List Record) (channel : Channel (all_pids plan) sent recorded) (k : ℕ) (known : k < length plan.services)
    → IsSameChannel channel (channel_for plan sent recorded channel k known)
unfolding channel_for
own_same plan sent recorded channel k known =
    fewer_same (all_pids plan) (pids_in plan k) sent recorded channel (λ pid there. own_read plan k pid (record { service = known; own = there }))
