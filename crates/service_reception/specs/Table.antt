-- What a reception of the INT's PID stands for.
use Rattle.std.specs.Prelude.{◌≡◌, ℕ, ◌≤◌, List, length, find, ◌==◌, nat_lt, nat_le, if◌then◌else◌, Option, Some, None}
use Rattle.ts_spec.specs.Recording.{Record}
use Rattle.wire_spec.specs.Causes.{raised}
use Rattle.ts_spec.specs.Received.{received_packets}
use Rattle.ts_spec.specs.Events.{Event, unit_event, bad_check_event, delimit_event, bad_length_event}
use Rattle.section_spec.specs.Section.{section_form}
use Rattle.int_spec.specs.Versions.{version_of_platform}
use Rattle.plan_spec.specs.Plan.{IntFields, PlanFields}
use Rattle.plan_spec.specs.InForce.{version_behind}
use Rattle.reassembly_law.specs.Records.{last_bytes}
use Rattle.reception_spec.specs.Numbers.{units_on}
use Rattle.reception_spec.specs.Table.{is_int_section}
use Rattle.reception_spec.specs.Shown.{says_version}
use Rattle.unit_stream.specs.Joining.{JoinerState, Stands}

-- which tables say versions of the plan, and its last version; how many sections came, the version in force, and the section that is shown
pub record KeptSections : Type 0 where
  pub platform_id : ℕ
  pub last_version : ℕ
  pub units : ℕ
  pub version : ℕ
  pub shown : Option (List ℕ)

pub record TableState : Type 0 where
  pub last : Option (List ℕ)
  pub joiner : JoinerState
  pub kept : KeptSections

-- no section came
abbrev pub nothing_kept : ℕ → ℕ → KeptSections
nothing_kept platform_id last_version = record { platform_id = platform_id; last_version = last_version; units = 0; version = 0; shown = None }

-- of sections that came, the one that is shown: the first that says the version in force, at version 0 the first of an INT
abbrev pub shown_among : PlanFields → List (List ℕ) → Option (List ℕ)
shown_among plan sections =
    if version_behind plan sections == 0 then find is_int_section sections else find (says_version plan (version_behind plan sections)) sections

-- what is kept of these sections, under a plan with this INT
abbrev pub kept_of : PlanFields → IntFields → List (List ℕ) → KeptSections
kept_of plan int sections = record {
  platform_id = int.platform_id;
  last_version = length plan.changes;
  units = length sections;
  version = version_behind plan sections;
  shown = shown_among plan sections;
}

-- One section more.

-- a version up to the last, and one above another
abbrev pub up_to : ℕ → Option ℕ → Option ℕ
up_to last None = None
up_to last (Some version) = if nat_le version last then Some version else None

abbrev pub above : ℕ → Option ℕ → Option ℕ
above other None = None
above other (Some version) = if nat_lt other version then Some version else None

-- the version that a section puts in force: one that it says, of this platform and up to the last, where it is above the one in force
abbrev pub put_in_force : KeptSections → List ℕ → Option ℕ
put_in_force kept section = above kept.version (up_to kept.last_version (version_of_platform kept.platform_id section))

-- the section, where it is the first of an INT
abbrev pub first_with : Option (List ℕ) → List ℕ → Option (List ℕ)
first_with (Some first) section = Some first
first_with None section = if is_int_section section then Some section else None

-- the version in force and the section that is shown, where a section puts this version in force, or none
abbrev pub version_with : KeptSections → Option ℕ → ℕ
version_with kept None = kept.version
version_with kept (Some version) = version

abbrev pub shown_with : KeptSections → List ℕ → Option ℕ → Option (List ℕ)
shown_with kept section None = first_with kept.shown section
shown_with kept section (Some version) = Some section

-- one section more is counted, and kept where it puts a version in force or is the first of an INT
pub record KeepsSection (section : List ℕ) (old new : KeptSections) : Type 0 where
  pub platform_is : new.platform_id ≡ old.platform_id
  pub last_is : new.last_version ≡ old.last_version
  pub units_are : new.units ≡ raised old.units 1
  pub version_is : length section ≤ 4096 → new.version ≡ version_with old (put_in_force old section)
  pub shown_is : length section ≤ 4096 → new.shown ≡ shown_with old section (put_in_force old section)

-- one event more is taken: its section is kept
abbrev pub KeepsEvent : Event → KeptSections → KeptSections → Type 0
KeepsEvent (unit_event moment section) old new = KeepsSection section old new
KeepsEvent bad_check_event old new = new ≡ old
KeepsEvent delimit_event old new = new ≡ old
KeepsEvent bad_length_event old new = new ≡ old

-- these records were received on the PID of this INT of the plan
pub record HasReceivedTable (plan : PlanFields) (int : IntFields) (pid : ℕ) (state : TableState) (records : List Record) : Type 0 where
  pub table_is : plan.table ≡ Some int
  pub last_is : state.last ≡ last_bytes None (received_packets pid records)
  pub stands : Stands section_form state.joiner (received_packets pid records)
  pub kept_are : state.kept ≡ kept_of plan int (units_on section_form (Some pid) records)
