-- Which packet ends the bytes of a start.
use Rattle.std.proofs.Common.{◌≡◌, ◌⊎◌, ◌↔◌, inl, inr, ℕ, zero, suc, ◌+◌, ◌<◌, Bool, true, false, cond, not, ◌||◌, List, [], ◌∷◌, map, refl, ap, sym, ◌∙◌, subst, arith}
use Rattle.std.proofs.lemmas.Bool.{cases_Bool}
use Rattle.ts_spec.specs.Packet.{PacketFields, continues, pointer_fits}
use Rattle.ts_spec.specs.Received.{Arrival, packet_of}
use Rattle.ts_spec.specs.Reassembly.{Given, with_payload, ended_by, given_by, given_behind}
use Rattle.ts_spec.specs.Packetized.{packet_at}
use Rattle.channel_law.specs.Words.{packets_from, GoesOn, IsEndedBy}
use Rattle.channel_law.proofs.Candidates.{pointed_given, given_whole}

-- what a packet makes of the bytes after the one before it
abbrev given_next : PacketFields → PacketFields → Given → Given
given_next before packet given = cond (continues before packet) (given_by packet given) (ended_by packet)

-- a packet that goes on leaves the end to those after it
ended_later : (before packet : PacketFields) (given : Given) → continues before packet ≡ true → packet.starts ≡ false
    → (given_next before packet given).is_ended ≡ given.is_ended
ended_later before packet given continuous starts =
    ap (λ (b : Bool). (cond b (given_by packet given) (ended_by packet)).is_ended) continuous
    ∙ ap (λ (g : Given). g.is_ended) (given_whole packet given starts)

-- another one ends the bytes, and its own pointer tells
ended_here : (before packet : PacketFields) (given : Given) → (continues before packet ≡ false) ⊎ (packet.starts ≡ true)
    → (given_next before packet given).is_ended ≡ (not packet.starts || pointer_fits packet)
ended_here before packet given (inl gap) = ap (λ (b : Bool). (cond b (given_by packet given) (ended_by packet)).is_ended) gap
ended_here before packet given (inr starts) = by_link (continues before packet)
  where
    by_pointer : (b : Bool) → pointer_fits packet ≡ b → (cond b (pointed_given packet) (ended_by packet)).is_ended ≡ (not packet.starts || pointer_fits packet)
    by_pointer true fits = sym (ap (λ (b : Bool). not packet.starts || b) fits ∙ ap (λ (b : Bool). not b || true) starts)
    by_pointer false misfit = refl

    by_link : (b : Bool) → (cond b (given_by packet given) (ended_by packet)).is_ended ≡ (not packet.starts || pointer_fits packet)
    by_link false = refl
    by_link true =
        ap (λ (b : Bool). (cond b (cond (pointer_fits packet) (pointed_given packet) (ended_by packet)) (with_payload packet.payload given)).is_ended) starts
        ∙ by_pointer (pointer_fits packet) refl

-- its own pointer does not fail to fit
fits_when : (starts fits : Bool) → (not starts || fits) ≡ true → starts ≡ true → fits ≡ true
fits_when true fits test is = test
fits_when false fits test is = absurd (cc)

-- and where that holds it does not
when_fits : (starts fits : Bool) → (starts ≡ true → fits ≡ true) → (not starts || fits) ≡ true
when_fits true fits fitting = fitting refl
when_fits false fits fitting = refl

-- a packet goes on or ends the bytes
on_or_end : (before packet : PacketFields) → ((continues before packet ≡ true) × (packet.starts ≡ false)) ⊎ ((continues before packet ≡ false) ⊎ (packet.starts ≡ true))
on_or_end before packet = by_tests (cases_Bool (continues before packet)) (cases_Bool packet.starts)
  where
    by_tests : ((continues before packet ≡ true) ⊎ (continues before packet ≡ false)) → ((packet.starts ≡ true) ⊎ (packet.starts ≡ false))
        → ((continues before packet ≡ true) × (packet.starts ≡ false)) ⊎ ((continues before packet ≡ false) ⊎ (packet.starts ≡ true))
    by_tests (inr gap) which = inr (inl gap)
    by_tests (inl continuous) (inl starts) = inr (inr starts)
    by_tests (inl continuous) (inr none) = inl (continuous, none)

-- One packet more in front.

-- the packets after the one in front
packet_at-next : (packet : PacketFields) (packets : List PacketFields) (k : ℕ) → packet_at (packet ∷ packets) (k + 1) ≡ packet_at packets k
packet_at-next packet packets k = let next : k + 1 ≡ suc k = omega arith in ap (packet_at (packet ∷ packets)) next

-- a packet that goes on goes on
goes_on_later : (packet : PacketFields) (packets : List PacketFields) (k : ℕ) → GoesOn packets k → GoesOn (packet ∷ packets) (suc k)
goes_on_later packet packets k on =
    let next : suc k + 1 ≡ suc (k + 1) = omega arith in record {
      continuous = ap (λ (t : ℕ). continues (packet_at packets k) (packet_at (packet ∷ packets) t)) next ∙ on.continuous;
      starts = ap (λ (t : ℕ). (packet_at (packet ∷ packets) t).starts) next ∙ on.starts;
    }

-- also without the packet in front
goes_on_before : (packet : PacketFields) (packets : List PacketFields) (k : ℕ) → GoesOn (packet ∷ packets) (suc k) → GoesOn packets k
goes_on_before packet packets k on =
    let next : suc (k + 1) ≡ suc k + 1 = omega arith in record {
      continuous = ap (λ (t : ℕ). continues (packet_at packets k) (packet_at (packet ∷ packets) t)) next ∙ on.continuous;
      starts = ap (λ (t : ℕ). (packet_at (packet ∷ packets) t).starts) next ∙ on.starts;
    }

-- the end stays, where the first packet goes on
ended_by_later : (packet : PacketFields) (packets : List PacketFields) (k : ℕ) → GoesOn (packet ∷ packets) 0 → IsEndedBy packets k → IsEndedBy (packet ∷ packets) (suc k)
ended_by_later packet packets k on end = record {
  within = omega (arith, end.within);
  before = before;
  ends = λ goes. end.ends (goes_on_before packet packets k goes);
  fits =
      let next : suc k + 1 ≡ suc (k + 1) = omega arith in
      subst (λ (t : ℕ). (packet_at (packet ∷ packets) t).starts ≡ true → pointer_fits (packet_at (packet ∷ packets) t) ≡ true) (sym next) end.fits;
}
  where
    before : (i : ℕ) → i < suc k → GoesOn (packet ∷ packets) i
    before zero less = on
    before (suc i) less = goes_on_later packet packets i (end.before i (omega arith))

-- also without the packet in front
ended_by_before : (packet : PacketFields) (packets : List PacketFields) (k : ℕ) → IsEndedBy (packet ∷ packets) (suc k) → IsEndedBy packets k
ended_by_before packet packets k end = record {
  within = omega (arith, end.within);
  before = λ i less. goes_on_before packet packets i (end.before (suc i) (omega arith));
  ends = λ goes. end.ends (goes_on_later packet packets k goes);
  fits =
      let next : suc k + 1 ≡ suc (k + 1) = omega arith in
      subst (λ (t : ℕ). (packet_at (packet ∷ packets) t).starts ≡ true → pointer_fits (packet_at (packet ∷ packets) t) ≡ true) next end.fits;
}

-- The packet that ends the bytes.

-- the bytes are ended by a packet that has no pointer which fails to fit
abbrev HasEnd : PacketFields → List Arrival → Type 0
HasEnd packet behind = (k : ℕ) × IsEndedBy (packets_from packet behind) k

-- the first packet after goes on
first_goes_on : (packet next : PacketFields) (packets : List PacketFields) → continues packet next ≡ true → next.starts ≡ false → GoesOn (packet ∷ next ∷ packets) 0
first_goes_on packet next packets continuous starts = record {
  continuous = ap (continues packet) (packet_at-next packet (next ∷ packets) 0) ∙ continuous;
  starts = ap (λ (t : PacketFields). t.starts) (packet_at-next packet (next ∷ packets) 0) ∙ starts;
}

-- or it ends the bytes
first_ends : (packet next : PacketFields) (packets : List PacketFields) → (continues packet next ≡ false) ⊎ (next.starts ≡ true) → GoesOn (packet ∷ next ∷ packets) 0 → ⊥
first_ends packet next packets (inl gap) on = absurd (cc (sym gap ∙ on.continuous))
first_ends packet next packets (inr starts) on = absurd (cc (sym starts ∙ on.starts))

-- the packet that ended them
end_told : (packet : PacketFields) (behind : List Arrival) → (given_behind packet behind).is_ended ≡ true → HasEnd packet behind
end_told packet [] is = absurd (cc)
end_told packet (a ∷ behind) is = by_next (on_or_end packet (packet_of a)) (end_told (packet_of a) behind)
  where
    by_next : ((continues packet (packet_of a) ≡ true) × ((packet_of a).starts ≡ false)) ⊎ ((continues packet (packet_of a) ≡ false) ⊎ ((packet_of a).starts ≡ true))
        → ((given_behind (packet_of a) behind).is_ended ≡ true → HasEnd (packet_of a) behind) → HasEnd packet (a ∷ behind)
    by_next (inl on) later =
        let end : HasEnd (packet_of a) behind = later (sym (ended_later packet (packet_of a) (given_behind (packet_of a) behind) on.0 on.1) ∙ is) in
        (suc end.0, ended_by_later packet (packets_from (packet_of a) behind) end.0 (first_goes_on packet (packet_of a) (map packet_of behind) on.0 on.1) end.1)
    by_next (inr ends) later = (
      0,
      record {
        within = omega arith;
        before = λ i less. absurd (omega (arith, less));
        ends = first_ends packet (packet_of a) (map packet_of behind) ends;
        fits = fits_when (packet_of a).starts (pointer_fits (packet_of a)) (sym (ended_here packet (packet_of a) (given_behind (packet_of a) behind) ends) ∙ is);
      },
    )

-- a packet that ends them
told_end : (packet : PacketFields) (behind : List Arrival) (k : ℕ) → IsEndedBy (packets_from packet behind) k → (given_behind packet behind).is_ended ≡ true
told_end packet [] k end = absurd (omega (arith, end.within))
told_end packet (a ∷ behind) zero end = by_next (on_or_end packet (packet_of a))
  where
    by_next : ((continues packet (packet_of a) ≡ true) × ((packet_of a).starts ≡ false)) ⊎ ((continues packet (packet_of a) ≡ false) ⊎ ((packet_of a).starts ≡ true))
        → (given_behind packet (a ∷ behind)).is_ended ≡ true
    by_next (inl on) = absurd (end.ends (first_goes_on packet (packet_of a) (map packet_of behind) on.0 on.1))
    by_next (inr ends) =
        ended_here packet (packet_of a) (given_behind (packet_of a) behind) ends
        ∙ when_fits (packet_of a).starts (pointer_fits (packet_of a)) end.fits
told_end packet (a ∷ behind) (suc k) end = by_next (on_or_end packet (packet_of a)) (told_end (packet_of a) behind k)
  where
    by_next : ((continues packet (packet_of a) ≡ true) × ((packet_of a).starts ≡ false)) ⊎ ((continues packet (packet_of a) ≡ false) ⊎ ((packet_of a).starts ≡ true))
        → (IsEndedBy (packets_from (packet_of a) behind) k → (given_behind (packet_of a) behind).is_ended ≡ true) → (given_behind packet (a ∷ behind)).is_ended ≡ true
    by_next (inl on) later =
        ended_later packet (packet_of a) (given_behind (packet_of a) behind) on.0 on.1
        ∙ later (ended_by_before packet (packets_from (packet_of a) behind) k end)
    by_next (inr ends) later = absurd (first_ends packet (packet_of a) (map packet_of behind) ends (end.before 0 (omega arith)))

-- the bytes are ended exactly where there is such a packet
pub ended : (packet : PacketFields) (behind : List Arrival) → ((given_behind packet behind).is_ended ≡ true) ↔ ((k : ℕ) × IsEndedBy (packets_from packet behind) k)
ended packet behind = (end_told packet behind, λ end. told_end packet behind end.0 end.1)
