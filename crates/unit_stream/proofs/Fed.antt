-- One packet more is fed.
use Rattle.std.proofs.Common.{◌≡◌, inl, inr, ℕ, suc, Bool, true, false, cond, List, [], ◌∷◌, ◌++◌, flat_map, refl, ap, sym, ◌∙◌, subst, arith, Option, None, Some, rules}
use Rattle.std.specs.Prelude.{Contains}
use Rattle.ts_spec.specs.Form.{UnitForm, IsLawful}
use Rattle.ts_spec.specs.Packet.{PacketFields, continues, fields_of}
use Rattle.ts_spec.specs.Received.{Arrival, packet_of, repeats}
use Rattle.ts_spec.specs.Reassembly.{outcome_of, bytes_from, unit_starts}
use Rattle.ts_spec.specs.Events.{Event, event_by, misfit_events, packet_events, events_of}
use Rattle.ts_spec.specs.Packetized.{no_packet}
use Rattle.reassembly_law.specs.UnderWay.{Open, unless_told, resumed, still_open, open_units, last_packet, IsUnderWay}
use Rattle.reassembly_law.specs.Records.{last_bytes}
use Rattle.reassembly_law.proofs.Steps.{events_more, under_way_more}
use Rattle.reassembly_law.proofs.Room.{are_under_way}
use Rattle.ts_packet.specs.declared.continuity.Link.{Link}
use Rattle.ts_packet.specs.declared.continuity.Link.TheVariants.{First, Next, Repeat, Gap}
use Rattle.ts_packet.specs.Links.{link_of}
use Rattle.unit_stream.specs.Joining.{JoinerState, drained, Stands, IsGiving, IsLinked, packets_with}
use Rattle.unit_stream.specs.Steps.{GoesOn, IsFed, AreProper}

-- Links.

abbrev pub is_next : Link → Bool
is_next First = false
is_next Next = true
is_next Repeat = false
is_next Gap = false

-- the last packet has the last bytes
last_is : (xs : List Arrival) (bytes : List ℕ)
    → (last : List ℕ) × (last_bytes (Some bytes) xs ≡ Some last) × (last_packet (fields_of bytes) xs ≡ fields_of last)
last_is [] bytes = (bytes, refl, refl)
last_is (a ∷ xs) bytes = last_is xs a.bytes

link_tells : (r k : Bool) (link : Link) → link ≡ cond r Repeat (cond k Next Gap) → (link ≡ Repeat → ⊥) → is_next link ≡ k
link_tells true k link e apart = absurd (apart e)
link_tells false true link e apart = ap is_next e
link_tells false false link e apart = ap is_next e

-- the link tells whether the packet is continuous
is_next-continues : (link : Link) (a : Arrival) (xs : List Arrival) (next : Arrival) → link ≡ link_of (last_bytes None (a ∷ xs)) next.bytes → (link ≡ Repeat → ⊥)
    → is_next link ≡ continues (last_packet no_packet (a ∷ xs)) (packet_of next)
is_next-continues link a xs next e apart = by_last (last_is xs a.bytes)
  where
    by_last : (last : List ℕ) × (last_bytes (Some a.bytes) xs ≡ Some last) × (last_packet (fields_of a.bytes) xs ≡ fields_of last)
        → is_next link ≡ continues (last_packet (fields_of a.bytes) xs) (packet_of next)
    by_last (last, bytes, packet) =
        link_tells (repeats (Some last) next.bytes) (continues (fields_of last) (fields_of next.bytes)) link
        (e ∙ ap (λ (t : Option (List ℕ)). link_of t next.bytes) bytes) apart
        ∙ ap (λ (t : PacketFields). continues t (packet_of next)) (sym packet)

-- Units under way.

proper_units : (form : UnitForm) (units : List Open) → ((unit : Open) → Contains units unit → IsUnderWay form unit.bytes) → AreProper form units
proper_units form [] each = tt
proper_units form (unit ∷ units) each =
    (each unit (0, omega arith, refl), proper_units form units (λ u c. each u (suc c.0, omega (arith, c.1), c.2)))

pub under_way_is : (a b : List Open) → drained a ≡ drained b → a ≡ b
under_way_is a b e = cc

-- where no packet came before, it does not matter whether the next one is continuous
same_link : (X : Type 0) (f : Bool → Open → List X) (form : UnitForm) (packets : List Arrival) (next : Arrival) (link : Link)
    → IsLinked link packets next → (link ≡ Repeat → ⊥)
    → flat_map (f (is_next link)) (open_units form packets) ≡ flat_map (f (continues (last_packet no_packet packets) (packet_of next))) (open_units form packets)
same_link X f form [] next link linked apart = refl
same_link X f form (a ∷ xs) next link (inl none) apart = absurd (cc)
same_link X f form (a ∷ xs) next link (inr e) apart =
    ap (λ (t : Bool). flat_map (f t) (open_units form (a ∷ xs))) (is_next-continues link a xs next e apart)

with_next : (link : Link) (packets : List Arrival) (next : Arrival) → (link ≡ Repeat → ⊥) → packets_with link packets next ≡ packets ++ next ∷ []
with_next First packets next apart = refl
with_next Next packets next apart = refl
with_next Gap packets next apart = refl
with_next Repeat packets next apart = absurd (apart refl)

-- what a packet with these fields and this moment adds
abbrev events_by : UnitForm → Bool → List Open → PacketFields → ℕ → List Event
events_by form b us q m =
    flat_map (resumed form b q) us ++ (misfit_events q ++ flat_map (λ start. event_by form m (outcome_of form (bytes_from start q []))) (unit_starts form q))

abbrev open_by : UnitForm → Bool → List Open → PacketFields → ℕ → List Open
open_by form b us q m =
    flat_map (still_open form b q) us ++ flat_map (λ start. unless_told form m (bytes_from start q []).payloads) (unit_starts form q)

-- the joiner then has to give what the packet adds
pub feeds : (form : UnitForm) → IsLawful form → (old new : JoinerState) (under_way : List Open) (link : Link) (is_continuous : Bool) (packets : List Arrival) (next : Arrival) (packet : PacketFields) (moment : ℕ)
    → Stands form old packets → old ≡ drained under_way → IsLinked link packets next → (link ≡ Repeat → ⊥) → is_continuous ≡ is_next link
    → packet_of next ≡ packet → next.moment ≡ moment → (AreProper form under_way → IsFed form is_continuous under_way moment packet new)
    → IsGiving form new packet (packets_with link packets next) (events_of form packets)
feeds form lawful old new under_way link is_continuous packets next packet moment stands was linked apart continuous fields time fed =
    let same : under_way ≡ open_units form packets = under_way_is under_way (open_units form packets) (sym was ∙ stands) in
    let good : AreProper form under_way = subst (AreProper form) (sym same) (proper_units form (open_units form packets) (are_under_way form lawful packets)) in
    record {
      events =
          ap (λ (t : List Event). events_of form packets ++ t)
          ((fed good).events
          ∙ ap (λ (b : Bool). events_by form b under_way packet moment) continuous
          ∙ ap (λ (us : List Open). events_by form (is_next link) us packet moment) same
          ∙ ap (λ (q : PacketFields). events_by form (is_next link) (open_units form packets) q moment) (sym fields)
          ∙ ap (λ (m : ℕ). events_by form (is_next link) (open_units form packets) (packet_of next) m) (sym time)
          ∙ ap (λ (t : List Event). t ++ packet_events form next [])
          (same_link Event (λ b u. resumed form b (packet_of next) u) form packets next link linked apart))
          ∙ sym (events_more form lawful no_packet packets next)
          ∙ ap (events_of form) (sym (with_next link packets next apart));
      under_way =
          (fed good).open_units
          ∙ ap (λ (b : Bool). open_by form b under_way packet moment) continuous
          ∙ ap (λ (us : List Open). open_by form (is_next link) us packet moment) same
          ∙ ap (λ (q : PacketFields). open_by form (is_next link) (open_units form packets) q moment) (sym fields)
          ∙ ap (λ (m : ℕ). open_by form (is_next link) (open_units form packets) (packet_of next) m) (sym time)
          ∙ ap (λ (t : List Open). t ++ flat_map (λ start. unless_told form next.moment (bytes_from start (packet_of next) []).payloads) (unit_starts form (packet_of next)))
          (same_link Open (λ b u. still_open form b (packet_of next) u) form packets next link linked apart)
          ∙ sym (under_way_more form lawful no_packet packets next)
          ∙ ap (open_units form) (sym (with_next link packets next apart));
    }

-- a packet without the start indicator, by what it makes of the unit under way
pub fed_on : (form : UnitForm) (unit : Open) (moment : ℕ) (packet : PacketFields) (state : JoinerState) → packet.starts ≡ false
    → GoesOn form unit packet state → IsFed form true (unit ∷ []) moment packet state
fed_on form unit moment packet state plain goes = record {
  events = search rules;
  open_units = search rules;
}
