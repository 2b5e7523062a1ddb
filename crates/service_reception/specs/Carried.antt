-- What the code reads of a unit, and what becomes of the unit.
use Rattle.std.specs.Prelude.{◌≡◌, ℕ, true, false, List, [], ◌∷◌, Option, Some, None}
use Rattle.plan_spec.specs.Plan.{KindFields, ServiceFields}
use Rattle.stream_spec.specs.Services.{carried_by_unit}
use Rattle.reception_spec.specs.Units.{label_of, is_read, delivered_by_unit}
use Rattle.reception_spec.specs.Numbers.{UnitNumbers, unit_numbers}
use Rattle.service_reception.specs.declared.carried.Carried.{Carried}
use Rattle.service_reception.specs.declared.handling.Handling.{Handling}
use Rattle.service_reception.specs.declared.handling.Handling.TheVariants as handling

-- a unit of this kind carries this: its label and its datagram, or nothing; it is read where it carries a datagram, and only there
abbrev pub ReadsAs : KindFields → List ℕ → Option Carried → Type 0
ReadsAs kind unit None = (is_read kind unit ≡ false) × (carried_by_unit kind unit ≡ [])
ReadsAs kind unit (Some carried) =
    (is_read kind unit ≡ true) × (carried.label ≡ label_of kind unit) × (carried_by_unit kind unit ≡ carried.datagram.now ∷ [])

-- what is counted of one unit, and what is delivered of it
abbrev pub handling_numbers : Handling → UnitNumbers
handling_numbers handling.Unread = record { unread = 1; filtered = 0; datagrams = 0 }
handling_numbers handling.Filtered = record { unread = 0; filtered = 1; datagrams = 0 }
handling_numbers (handling.Wanted datagram) = record { unread = 0; filtered = 0; datagrams = 1 }

abbrev pub handling_datagrams : Handling → List (List ℕ)
handling_datagrams handling.Unread = []
handling_datagrams handling.Filtered = []
handling_datagrams (handling.Wanted datagram) = datagram.now ∷ []

-- this becomes of a unit of a service
pub record TellsHandling (service : ServiceFields) (unit : List ℕ) (told : Handling) : Type 0 where
  pub numbers : unit_numbers service (unit ∷ []) ≡ handling_numbers told
  pub datagrams : delivered_by_unit service unit ≡ handling_datagrams told
