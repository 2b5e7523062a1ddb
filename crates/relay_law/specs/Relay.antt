-- A relay's stream, and what arrives of it.
use Rattle.std.specs.Prelude.{◌≡◌, ℕ, ◌<◌, Bool, true, false, List, [], length, filter, All}
use Rattle.wire_spec.specs.Bytes.{AreBytes}
use Rattle.wire_spec.specs.Lists.{IsSubsequence}
use Rattle.plan_spec.specs.Plan.{ServiceFields, PlanFields, is_baseband}
use Rattle.plan_spec.specs.Bytes.{AreOfBytes}
use Rattle.plan_spec.specs.Wholes.{is_whole_plan}
use Rattle.plan_spec.specs.Offered.{offered_in_all}
use Rattle.gse_spec.specs.Classes.{Class, datagrams_of_class}
use Rattle.carrier_spec.specs.Stream.{piece_size}
use Rattle.bb_stream_spec.specs.Stream.{order_of}
use Rattle.bb_reception_spec.specs.Delivered.{service_at}
use Rattle.end_to_end_law.specs.Units.{wants_datagram}
use Rattle.end_to_end_law.specs.BbSent.{wants_in_frames}
use Rattle.recording_spec.specs.Interleaving.{IsInterleaving}
use Rattle.recording_spec.specs.Pieces.{delivered_of}
use Rattle.recording_spec.specs.Relayed.{relayed, as_records, IsRelayed}
use Rattle.relay_core.specs.Gathering.{FitsCapture}
use Rattle.recording_law.specs.Hop.{CarriesInPieces, IsRecordedInPieces, wanted_in, DeliversWanted}

-- this stream is what a relay sends of the pieces, where it sends anything: the outer settings are accepted, and what the pieces deliver under
-- the inner ones are bytes, no more than a capture has
pub record IsRelay (inner outer : PlanFields) (pieces stream : List (List ℕ)) : Type 0 where
  pub accepted : is_whole_plan outer ≡ true
  pub of_bytes : AreOfBytes outer
  pub bytes : All AreBytes (relayed inner pieces)
  pub fits : FitsCapture (relayed inner pieces)
  pub stream_is : IsRelayed inner outer pieces stream

-- what a relay offers to a service of its outer plan, in all versions
abbrev pub reoffered : (inner outer : PlanFields) → List (List ℕ) → ℕ → List (List ℕ)
reoffered inner outer pieces j = offered_in_all outer (as_records (relayed inner pieces)) j

-- the same in the order in which the stream carries it: in frames the order of their ends, where the service has urgent rules
abbrev pub reordered : (inner outer : PlanFields) → List (List ℕ) → ℕ → List (List ℕ)
reordered inner outer pieces j = order_of outer (piece_size outer) j (reoffered inner outer pieces j)

-- the filter of the service wants the datagram, in baseband frames or in packets
abbrev pub wants_on : (in_baseband : Bool) → ServiceFields → List ℕ → Bool
wants_on true service datagram = wants_in_frames service datagram
wants_on false service datagram = wants_datagram service datagram

-- what a service of the outer plan wants of what a relay offers to it, in the order in which the stream carries it
abbrev pub wanted_again : (inner outer : PlanFields) → List (List ℕ) → ℕ → List (List ℕ)
wanted_again inner outer pieces j = filter (wants_on (is_baseband outer) (service_at outer j)) (reordered inner outer pieces j)

-- the stream keeps the order of service j: it is in packets, or the service has no urgent rules
abbrev pub KeepsOrder : PlanFields → ℕ → Type 0
KeepsOrder outer j = is_baseband outer ≡ true → (service_at outer j).urgent ≡ []

-- For service j of the outer plan: the stream carries what was offered to it of the relayed datagrams; it is a recording of itself, and of it
-- the service delivers all that it wants of that; and of each recording of it the service delivers some of what it wants, so of each class some
-- of all relayed datagrams of that class, unchanged and in order; where the stream keeps their order, some of all of them
pub record ArrivesAgain (inner outer : PlanFields) (pieces stream : List (List ℕ)) (j : ℕ) : Type 0 where
  pub carries : CarriesInPieces outer j stream (reordered inner outer pieces j)
  pub itself : IsRecordedInPieces outer j stream (reordered inner outer pieces j) carries stream
  pub whole : delivered_of outer j stream ≡ wanted_again inner outer pieces j
  pub wanted : (again : List (List ℕ)) → IsRecordedInPieces outer j stream (reordered inner outer pieces j) carries again
      → IsSubsequence (delivered_of outer j again) (wanted_again inner outer pieces j)
  pub classes : (onward : CarriesInPieces outer j stream (reordered inner outer pieces j)) (again : List (List ℕ))
      → IsRecordedInPieces outer j stream (reordered inner outer pieces j) onward again → (class : Class)
      → IsSubsequence (datagrams_of_class (service_at outer j).urgent class (delivered_of outer j again))
      (datagrams_of_class (service_at outer j).urgent class (relayed inner pieces))
  pub some : KeepsOrder outer j → (onward : CarriesInPieces outer j stream (reordered inner outer pieces j)) (again : List (List ℕ))
      → IsRecordedInPieces outer j stream (reordered inner outer pieces j) onward again → IsSubsequence (delivered_of outer j again) (relayed inner pieces)

-- what was relayed is merged of what each service of the inner plan delivers, and this is some of what the service wants of what was sent to it
pub record ArrivesMerged (inner : PlanFields) (sent pieces : List (List ℕ)) : Type 0 where
  pub merged : IsInterleaving (length inner.services) (λ k. delivered_of inner k pieces) (relayed inner pieces)
  pub wanted : (k : ℕ) → k < length inner.services → (carried : List (List ℕ)) (carries : CarriesInPieces inner k sent carried)
      → IsRecordedInPieces inner k sent carried carries pieces → DeliversWanted carried (wanted_in inner k sent carried carries) (delivered_of inner k pieces)
