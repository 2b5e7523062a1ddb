-- An urgent PDU in fragments goes on up to its last: packet by packet, and then between two places.
use Rattle.std.proofs.Common.{◌≡◌, ℕ, Bool, true, false, not, cond, Option, None, Some, is_some, List, [], ◌∷◌, ◌++◌, nat_lt, refl, subst}
use Rattle.std.specs.List.{list_all}
use Rattle.std.proofs.lemmas.Bool.{and_parts}
use Rattle.gse_spec.specs.Packet.{GsePacket, complete_packet, start_packet, middle_packet, end_packet}
use Rattle.class_law.specs.Yielding.{PacketOrEnd, a_packet, frame_end, first_id, later_id, last_id, is_urgent_id, ends_none}

-- the Frag ID of an urgent PDU that begins in fragments
abbrev pub held_by : Option ℕ → Option ℕ
held_by None = None
held_by (Some id) = cond (nat_lt id 128) None (Some id)

-- while an urgent PDU is under way, each packet is a later fragment of its Frag ID
abbrev pub GoOn : Option ℕ → List PacketOrEnd → Type 0
GoOn held [] = Unit {0}
GoOn held (frame_end ∷ items) = GoOn held items
GoOn None (a_packet p ∷ items) = GoOn (held_by (first_id p)) items
GoOn (Some id) (a_packet p ∷ items) = (later_id p ≡ Some id) × GoOn (cond (is_some (last_id p)) None (Some id)) items

-- from the first place to another
go_from : (held : Option ℕ) (before rest : List PacketOrEnd) → GoOn held (before ++ rest) → (h : Option ℕ) × GoOn h rest
go_from held [] rest all = (held, all)
go_from held (frame_end ∷ before) rest all = go_from held before rest all
go_from None (a_packet p ∷ before) rest all = go_from (held_by (first_id p)) before rest all
go_from (Some id) (a_packet p ∷ before) rest all = go_from (cond (is_some (last_id p)) None (Some id)) before rest all.1

-- after the start of an urgent one
go_after : (held : Option ℕ) (start : GsePacket) (rest : List PacketOrEnd) → is_urgent_id (first_id start) ≡ true → GoOn held (a_packet start ∷ rest) → GoOn (first_id start) rest
go_after held (complete_packet protocol label bytes) rest is all = absurd (cc)
go_after held (middle_packet id bytes) rest is all = absurd (cc)
go_after held (end_packet id bytes crc) rest is all = absurd (cc)
go_after (Some other) (start_packet id total protocol label written bytes) rest is all = absurd (let none = all.0 in cc)
go_after None (start_packet id total protocol label written bytes) rest is all = subst (λ (b : Bool). GoOn (cond b None (Some id)) rest) (not_high (nat_lt id 128) is) all
  where
    not_high : (b : Bool) → not b ≡ true → b ≡ false
    not_high true e = absurd (cc)
    not_high false e = refl

-- while none of the packets is a last fragment
go_through : (id : ℕ) (between rest : List PacketOrEnd) → list_all ends_none between ≡ true → GoOn (Some id) (between ++ rest) → GoOn (Some id) rest
go_through id [] rest none all = all
go_through id (frame_end ∷ between) rest none all = go_through id between rest none all
go_through id (a_packet p ∷ between) rest none all =
    let parts = and_parts (not (is_some (last_id p))) (list_all ends_none between) none in
    go_through id between rest parts.1 (subst (λ (b : Bool). GoOn (cond b None (Some id)) (between ++ rest)) (no_last (is_some (last_id p)) parts.0) all.1)
  where
    no_last : (b : Bool) → not b ≡ true → b ≡ false
    no_last true e = absurd (cc)
    no_last false e = refl

by_start : (o : Option ℕ) (between after : List PacketOrEnd) (p : GsePacket) → is_urgent_id o ≡ true → list_all ends_none between ≡ true → GoOn o (between ++ a_packet p ∷ after)
    → later_id p ≡ o
by_start None between after p is none all = absurd (cc)
by_start (Some id) between after p is none all = (go_through id between (a_packet p ∷ after) none all).0

pub goes_on_held : (items before between after : List PacketOrEnd) (start p : GsePacket) → GoOn None items → items ≡ before ++ a_packet start ∷ (between ++ a_packet p ∷ after)
    → is_urgent_id (first_id start) ≡ true → list_all ends_none between ≡ true → later_id p ≡ first_id start
goes_on_held items before between after start p all parts starts none =
    let at = go_from None before (a_packet start ∷ (between ++ a_packet p ∷ after)) (subst (GoOn None) parts all) in
    by_start (first_id start) between after p starts none (go_after at.0 start (between ++ a_packet p ∷ after) starts at.1)
