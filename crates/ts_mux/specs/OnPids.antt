-- Kinds of services that go in transport packets.
use Rattle.std.specs.Prelude.{Bool, is_some}
use Rattle.plan_spec.specs.Plan.{KindFields, pid_of}

-- a service of this kind has a PID
abbrev pub is_on_pid : KindFields → Bool
is_on_pid kind = is_some (pid_of kind)
