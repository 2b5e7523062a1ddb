-- From the PDUs of a service to the datagrams that were offered to it.
use Rattle.std.proofs.Common.{◌≡◌, inl, inr, ℕ, ◌<◌, Bool, true, false, cond, List, [], ◌∷◌, ◌++◌, length, map, flat_map, refl, ap, ap₂, sym, ◌∙◌, subst, arith}
use Rattle.std.specs.Prelude.{All, filter}
use Rattle.std.proofs.lemmas.List.{append-nil}
use Rattle.std.proofs.lemmas.List.Elements.{All-nil, All-cons, All-head, All-tail}
use Rattle.wire_spec.specs.Datagram.{IsDatagram}
use Rattle.wire_spec.specs.Lists.{IsSubsequence}
use Rattle.channel_law.proofs.Member.{Member, contains_member}
use Rattle.addr_rules.specs.Filter.{is_wanted}
use Rattle.addr_rules.specs.declared.filter.Label.{Label}
use Rattle.plan_spec.specs.Plan.{KindFields, gse, ServiceFields}
use Rattle.gse_spec.specs.Reassembly.{Pdu}
use Rattle.gse_spec.specs.Received.{carried_by_pdu, received_pdus, delivered_by_pdu, delivered_by_gse}
use Rattle.gse_spec.specs.Carried.{sent_pdu, wanted_datagrams, DeliversIntact}
use Rattle.gse_spec.specs.Channel.{FrameChannel}
use Rattle.gse_spec.specs.Numbers.{pdus_of}
use Rattle.gse_spec.specs.Sending.{label_for, pdu_for}
use Rattle.end_to_end_law.specs.Sent.{datagram_at}
use Rattle.end_to_end_law.specs.BbSent.{label_in_frames, wants_in_frames}
use Rattle.end_to_end_law.specs.BbDelivered.{DeliversNumbered}
use Rattle.end_to_end_law.proofs.BbPdus.{as_many, pdu_is}

-- a filter, item by item
filter-first : (test : List ℕ → Bool) (x : List ℕ) (xs : List (List ℕ)) → cond (test x) (x ∷ []) [] ++ filter test xs ≡ filter test (x ∷ xs)
filter-first test x xs = by_test (test x)
  where
    by_test : (b : Bool) → cond b (x ∷ []) [] ++ filter test xs ≡ cond b (x ∷ filter test xs) (filter test xs)
    by_test true = refl
    by_test false = refl

-- of all datagrams
chosen : (given : Pdu → List (List ℕ)) (of : List ℕ → Pdu) (test : List ℕ → Bool)
    → ((d : List ℕ) → IsDatagram d → given (of d) ≡ cond (test d) (d ∷ []) [])
    → (ds : List (List ℕ)) → All IsDatagram ds → flat_map given (map of ds) ≡ filter test ds
chosen given of test each [] all = refl
chosen given of test each (d ∷ ds) all =
    ap₂ (λ x y. x ++ y) (each d (All-head IsDatagram d ds all)) (chosen given of test each ds (All-tail IsDatagram d ds all))
    ∙ filter-first test d ds

-- of those with these numbers
chosen_by_number : (given : ℕ → List (List ℕ)) (ds : List (List ℕ)) (test : List ℕ → Bool) (numbers : List ℕ)
    → ((n : ℕ) → Member numbers n → given n ≡ cond (test (datagram_at ds n)) (datagram_at ds n ∷ []) [])
    → flat_map given numbers ≡ filter test (map (datagram_at ds) numbers)
chosen_by_number given ds test [] each = refl
chosen_by_number given ds test (n ∷ numbers) each =
    ap₂ (λ x y. x ++ y) (each n (inl refl)) (chosen_by_number given ds test numbers (λ m there. each m (inr there)))
    ∙ filter-first test (datagram_at ds n) (map (datagram_at ds) numbers)

module _ (service : ServiceFields) (isi : ℕ) (address : Bool) (kind : service.kind ≡ gse isi address)
    (carried : (ds : List (List ℕ)) → All IsDatagram ds → flat_map carried_by_pdu (map (pdu_for address service.unicast) ds) ≡ ds) where
  -- what the PDU of a datagram gives
  gives_one : (d : List ℕ) → IsDatagram d
      → delivered_by_pdu carried_by_pdu service.filter (pdu_for address service.unicast d) ≡ cond (wants_in_frames service d) (d ∷ []) []
  gives_one d is =
      let one : carried_by_pdu (pdu_for address service.unicast d) ≡ d ∷ []
      = sym (append-nil (carried_by_pdu (pdu_for address service.unicast d))) ∙ carried (d ∷ []) (All-cons IsDatagram d [] is (All-nil IsDatagram)) in
      let same : label_for address service.unicast d ≡ label_in_frames service.kind service.unicast d
      = sym (ap (λ (k : KindFields). label_in_frames k service.unicast d) kind) in
      ap₂ (λ (l : Label) (ds : List (List ℕ)). cond (is_wanted service.filter l) ds []) same one

  module _ (sent datagrams : List (List ℕ)) (all : All IsDatagram datagrams) (are : pdus_of isi sent ≡ map (pdu_for address service.unicast) datagrams)
      (delivers : delivered_by_gse carried_by_pdu service.filter isi sent ≡ flat_map (delivered_by_pdu carried_by_pdu service.filter) (pdus_of isi sent)) where
    pub wanted_are : wanted_datagrams carried_by_pdu service.filter isi sent ≡ filter (wants_in_frames service) datagrams
    wanted_are =
        delivers
        ∙ ap (flat_map (delivered_by_pdu carried_by_pdu service.filter)) are
        ∙ chosen (delivered_by_pdu carried_by_pdu service.filter) (pdu_for address service.unicast) (wants_in_frames service) gives_one datagrams all

    gives_number : (n : ℕ) → n < length (received_pdus isi sent)
        → delivered_by_pdu carried_by_pdu service.filter (sent_pdu isi sent n) ≡ cond (wants_in_frames service (datagram_at datagrams n)) (datagram_at datagrams n ∷ []) []
    gives_number n less =
        ap (delivered_by_pdu carried_by_pdu service.filter) (pdu_is isi sent (pdu_for address service.unicast) datagrams are n less)
        ∙ gives_one (datagram_at datagrams n) (all n [] (omega (arith, less, as_many isi sent (pdu_for address service.unicast) datagrams are)))

    pub delivers_numbered : {isis : List ℕ} {recorded : List (List ℕ)} (channel : FrameChannel isis sent recorded) (delivered : List (List ℕ))
        → DeliversIntact channel carried_by_pdu service.filter isi datagrams delivered → DeliversNumbered channel isi service datagrams delivered
    delivers_numbered channel delivered intact = record {
      numbers = intact.numbers;
      includes = intact.includes;
      delivered_are =
          intact.delivered_are
          ∙ chosen_by_number (λ n. delivered_by_pdu carried_by_pdu service.filter (sent_pdu isi sent n)) datagrams (wants_in_frames service) intact.numbers
          (λ n there. gives_number n (intact.includes.within n (contains_member intact.numbers n there)));
      were_wanted = subst (IsSubsequence delivered) wanted_are intact.were_wanted;
    }
