-- A unit whose packets are received one after another is the candidate of its start.
use Rattle.std.proofs.Common.{◌≡◌, ◌⊎◌, inl, inr, ℕ, zero, suc, ◌+◌, ◌-◌, ◌<◌, ◌≤◌, Bool, true, false, cond, eqb, leb, ◌||◌, List, [], ◌∷◌, ◌++◌, length, take, drop, refl, ap, sym, ◌∙◌, subst, arith, length-append, length-drop, append_assoc}
use Rattle.std.proofs.lemmas.List.{drop-drop, drop_at, drop-take, take-append-le, take-append-drop, take_at, take_all, drop_all, append-nil}
use Rattle.std.proofs.Math.Seq.{take-append-add}
use Rattle.std.proofs.lemmas.Bool.{cases_lt}
use Rattle.ts_spec.specs.Form.{UnitForm, Span, whole, IsLawful}
use Rattle.ts_spec.specs.Packet.{PacketFields, pointer, pointer_fits, continues}
use Rattle.ts_spec.specs.Received.{Arrival, packet_of}
use Rattle.ts_spec.specs.Reassembly.{Given, all_given, with_payload, ended_by, given_by, given_behind, candidate, is_complete, incomplete, outcome_by, outcome_of}
use Rattle.ts_spec.specs.Packetized.{packet_at, unit_at, joined_payloads, edge, IsIn, IsFirstIn, Packetizes}
use Rattle.channel_law.proofs.Positions.{body, joined_behind, size, edge-next, drop-edge, joined-drop, begin_rises, next_at_once}
use Rattle.channel_law.proofs.Starts.{leb_true, span-front}

-- Bytes that come.

-- what one continuous packet gives of bytes that are to come: with the start indicator all that are left, by its pointer;
-- without it all that are left, or its whole payload, and the rest comes after it
abbrev pub ComesBy : Bool → PacketFields → (List ℕ → Type 0) → List ℕ → Type 0
ComesBy true packet Behind bytes = (pointer_fits packet ≡ true) × (take (pointer packet) (drop 1 packet.payload) ≡ bytes)
ComesBy false packet Behind bytes = ((k : ℕ) × (take k packet.payload ≡ bytes)) ⊎ ((rest : List ℕ) × (packet.payload ++ rest ≡ bytes) × Behind rest)

-- the bytes come after a packet, and end where the next unit starts
abbrev pub Comes : PacketFields → List Arrival → List ℕ → Type 0
Comes before [] bytes = bytes ≡ []
Comes before (a ∷ behind) bytes =
    (bytes ≡ []) ⊎ ((continues before (packet_of a) ≡ true) × ComesBy (packet_of a).starts (packet_of a) (Comes (packet_of a) behind) bytes)

-- the bytes are the front of the whole payloads, or all that is given
abbrev pub Fits : List ℕ → Given → Type 0
Fits bytes given = ((rest : List ℕ) × (bytes ++ rest ≡ given.payloads)) ⊎ (bytes ≡ all_given given)

-- the front of a payload fits
pub fits_part : (payload bytes : List ℕ) (given : Given) → ((rest : List ℕ) × (bytes ++ rest ≡ payload)) → Fits bytes (with_payload payload given)
fits_part payload bytes given part =
    inl (part.0 ++ given.payloads, sym (append_assoc bytes part.0 given.payloads) ∙ ap (λ (t : List ℕ). t ++ given.payloads) part.1)

-- a payload more stands in front of bytes that fit
pub fits_more : (payload bytes : List ℕ) (given : Given) → Fits bytes given → Fits (payload ++ bytes) (with_payload payload given)
fits_more payload bytes given (inl part) = inl (part.0, append_assoc payload bytes part.0 ∙ ap (λ (t : List ℕ). payload ++ t) part.1)
fits_more payload bytes given (inr all) = inr (ap (λ (t : List ℕ). payload ++ t) all ∙ sym (append_assoc payload given.payloads given.rest))

-- what a packet with the start indicator gives
abbrev pub pointed_given : PacketFields → Given
pointed_given packet = record { payloads = []; rest = take (pointer packet) (drop 1 packet.payload); is_ended = true }

-- a packet without the start indicator gives its payload and what is after it
pub given_whole : (packet : PacketFields) (behind : Given) → packet.starts ≡ false → given_by packet behind ≡ with_payload packet.payload behind
given_whole packet behind starts =
    ap (λ (b : Bool). cond b (cond (pointer_fits packet) (pointed_given packet) (ended_by packet)) (with_payload packet.payload behind)) starts

-- one with it gives its pointer's bytes
given_pointed : (packet : PacketFields) (behind : Given) → packet.starts ≡ true → pointer_fits packet ≡ true → given_by packet behind ≡ pointed_given packet
given_pointed packet behind starts fits =
    ap (λ (b : Bool). cond b (cond (pointer_fits packet) (pointed_given packet) (ended_by packet)) (with_payload packet.payload behind)) starts
    ∙ ap (λ (b : Bool). cond b (pointed_given packet) (ended_by packet)) fits

-- bytes that come are given
pub fits_given : (before : PacketFields) (behind : List Arrival) (bytes : List ℕ) → Comes before behind bytes → Fits bytes (given_behind before behind)
fits_given before [] bytes none = inl ([], append-nil bytes ∙ none)
fits_given before (a ∷ behind) bytes (inl none) = rw none (inl ((given_behind before (a ∷ behind)).payloads, refl))
fits_given before (a ∷ behind) bytes (inr comes) = rw comes.0 (by_indicator (packet_of a) (packet_of a).starts bytes refl (fits_given (packet_of a) behind) comes.1)
  where
    by_indicator : (packet : PacketFields) (b : Bool) (v : List ℕ) → packet.starts ≡ b → ((w : List ℕ) → Comes packet behind w → Fits w (given_behind packet behind))
        → ComesBy b packet (Comes packet behind) v → Fits v (given_by packet (given_behind packet behind))
    by_indicator packet true v starts later came =
        subst (Fits v) (sym (given_pointed packet (given_behind packet behind) starts came.0)) (inr (sym came.1))
    by_indicator packet false v starts later (inl part) =
        subst (Fits v) (sym (given_whole packet (given_behind packet behind) starts))
        (fits_part packet.payload v (given_behind packet behind)
        (drop part.0 packet.payload, ap (λ (t : List ℕ). t ++ drop part.0 packet.payload) (sym part.1) ∙ take-append-drop part.0 packet.payload))
    by_indicator packet false v starts later (inr more) =
        subst (Fits v) (sym (given_whole packet (given_behind packet behind) starts))
        (subst (λ (t : List ℕ). Fits t (with_payload packet.payload (given_behind packet behind))) more.1
        (fits_more packet.payload more.0 (given_behind packet behind) (later more.0 more.2)))

-- A unit that is given is the candidate.

-- a unit within the whole payloads is complete
complete_part : (n : ℕ) (given : Given) → n ≤ length given.payloads → is_complete n given ≡ true
complete_part n given within = rw (leb_true n (length given.payloads) within) refl

-- a unit that is all of the bytes is complete
complete_all : (n : ℕ) (given : Given) → n ≡ length (all_given given) → is_complete n given ≡ true
complete_all n given all = by_front (leb n (length given.payloads))
  where
    same : eqb n (length (all_given given)) ≡ true
    same = grind (arith, all)

    by_front : (b : Bool) → (b || eqb n (length (all_given given))) ≡ true
    by_front true = refl
    by_front false = same

-- a complete unit is the outcome
complete_candidate : (n : ℕ) (given : Given) (span : Span) → span ≡ whole n → is_complete n given ≡ true → outcome_by span given ≡ candidate (take n (all_given given))
complete_candidate n given span told complete =
    ap (λ (t : Span). outcome_by t given) told ∙ ap (λ (b : Bool). cond b (candidate (take n (all_given given))) (incomplete given)) complete

-- a unit that is given is the outcome
pub given_candidate : (form : UnitForm) → IsLawful form → (unit : List ℕ) (given : Given) → form.span unit ≡ whole (length unit) → Fits unit given → outcome_of form given ≡ candidate unit
given_candidate form lawful unit given told (inl part) =
    let all : unit ++ (part.0 ++ given.rest) ≡ all_given given = sym (append_assoc unit part.0 given.rest) ∙ ap (λ (t : List ℕ). t ++ given.rest) part.1 in
    let short : length unit ≤ length given.payloads = omega (arith, ap length part.1, length-append unit part.0) in
    complete_candidate (length unit) given (form.span (all_given given)) (ap form.span (sym all) ∙ span-front form lawful unit (part.0 ++ given.rest) told)
    (complete_part (length unit) given short)
    ∙ ap candidate (ap (take (length unit)) (sym all) ∙ take_at unit (part.0 ++ given.rest) (length unit) refl)
given_candidate form lawful unit given told (inr all) =
    complete_candidate (length unit) given (form.span (all_given given)) (ap form.span (sym all) ∙ told) (complete_all (length unit) given (ap length all))
    ∙ ap candidate (ap (take (length unit)) (sym all) ∙ take_all (length unit) unit (omega arith))

-- Packets received one after another.

-- after the first come the bytes of the second
pub drop_front : (front behind : List ℕ) → drop (length front) (front ++ behind) ≡ behind
drop_front front behind = drop_at front behind (length front) refl

-- the arrivals begin with the packets after packet m, so many
abbrev pub Agrees : List PacketFields → ℕ → ℕ → List Arrival → Type 0
Agrees packets zero m arrivals = Unit {0}
Agrees packets (suc d) m [] = ⊥
Agrees packets (suc d) m (a ∷ arrivals) = (packet_of a ≡ packet_at packets (m + 1)) × (m + 1 < length packets) × Agrees packets d (m + 1) arrivals

module _ (form : UnitForm) (units : List (List ℕ)) (packets : List PacketFields) (begin : ℕ → ℕ) (lawful : IsLawful form) (packetized : Packetizes form units packets begin) where
  -- k bytes of unit n stand before packet m
  abbrev pub IsLeftAt : ℕ → ℕ → ℕ → Type 0
  IsLeftAt n m k = (n < length units) × (m < length packets) × (begin n + k ≡ edge packets m)

  -- what is left of the unit comes from that packet on
  left_is : (n m k : ℕ) → IsLeftAt n m k → k ≤ size units n → take (size units n - k) (body packets m ++ joined_behind packets m) ≡ drop k (unit_at units n)
  left_is n m k at order =
      let all : k + (size units n - k) ≡ size units n = omega arith in
      ap (take (size units n - k)) (sym (joined-drop packets m at.1) ∙ sym (drop-edge packets m) ∙ ap (λ (t : ℕ). drop t (joined_payloads packets)) (sym at.2) ∙ sym (drop-drop k (begin n) (joined_payloads packets)))
      ∙ sym (drop-take k (size units n - k) (drop (begin n) (joined_payloads packets)))
      ∙ ap (λ (t : ℕ). drop k (take t (drop (begin n) (joined_payloads packets)))) all
      ∙ ap (drop k) (packetized.bytes n at.0)

  -- the pointer of a packet counts the bytes that are left, and the next unit starts after them
  pointed_left : (n m k : ℕ) → IsLeftAt n m k → 1 ≤ k → k < size units n → (packet_at packets m).starts ≡ true
      → (pointer (packet_at packets m) + k ≡ size units n) × (edge packets m + pointer (packet_at packets m) < edge packets (m + 1))
  pointed_left n m k at some left starts = by_first (packetized.pointed m at.1 starts)
    where
      by_first : ((f : ℕ) × IsFirstIn units packets begin m f × (edge packets m + pointer (packet_at packets m) ≡ begin f))
          → (pointer (packet_at packets m) + k ≡ size units n) × (edge packets m + pointer (packet_at packets m) < edge packets (m + 1))
      by_first found = by_order (cases_lt n found.0)
        where
          first : IsFirstIn units packets begin m found.0
          first = found.1

          by_order : (n < found.0) ⊎ (found.0 ≤ n) → (pointer (packet_at packets m) + k ≡ size units n) × (edge packets m + pointer (packet_at packets m) < edge packets (m + 1))
          by_order (inr earlier) = absurd (omega (arith, begin_rises form units packets begin lawful packetized found.0 n earlier (omega (arith, at.0)), first.starts.from, at.2))
          by_order (inl later) =
              let up : begin (n + 1) ≤ begin found.0 = begin_rises form units packets begin lawful packetized (n + 1) found.0 (omega arith) (omega (arith, first.unit)) in
              let next : begin (n + 1) ≡ begin n + size units n =
              next_at_once form units packets begin lawful packetized m n at.0 (omega (arith, at.2)) (omega (arith, first.starts.below)) in
              let here : IsIn packets m (begin (n + 1)) = record { within = at.1; from = omega (arith, at.2); below = omega (arith, first.starts.below) } in
              let least : begin found.0 ≤ begin (n + 1) = first.first (n + 1) (omega (arith, first.unit)) here in
              (omega (arith, found.2, at.2), omega (arith, found.2, first.starts.below))

  -- a packet with the start indicator gives all that is left
  comes_pointed : (n m k : ℕ) (Behind : List ℕ → Type 0) → IsLeftAt n m k → 1 ≤ k → k < size units n → (packet_at packets m).starts ≡ true
      → ComesBy true (packet_at packets m) Behind (drop k (unit_at units n))
  comes_pointed n m k Behind at some left starts =
      let body_is : body packets m ≡ drop 1 (packet_at packets m).payload = ap (λ (t : Bool). cond t (drop 1 (packet_at packets m).payload) (packet_at packets m).payload) starts in
      let length_is : length (body packets m) ≡ length (packet_at packets m).payload - 1 = ap length body_is ∙ length-drop 1 (packet_at packets m).payload in
      let pointed = pointed_left n m k at some left starts in
      let short : pointer (packet_at packets m) < length (body packets m) = omega (arith, edge-next packets m at.1, pointed.1) in
      let count : size units n - k ≡ pointer (packet_at packets m) = omega (arith, pointed.0) in (
        leb_true (1 + pointer (packet_at packets m)) (length (packet_at packets m).payload) (omega (arith, short, length_is)),
        ap (take (pointer (packet_at packets m))) (sym body_is)
            ∙ sym (take-append-le (pointer (packet_at packets m)) (body packets m) (joined_behind packets m) (omega (arith, short)))
            ∙ ap (λ (t : ℕ). take t (body packets m ++ joined_behind packets m)) (sym count)
            ∙ left_is n m k at (omega arith),
      )

  -- a packet without it gives all that is left, or its payload
  comes_whole : (n m k : ℕ) (Behind : List ℕ → Type 0) → IsLeftAt n m k → k < size units n → (packet_at packets m).starts ≡ false
      → (length (packet_at packets m).payload < size units n - k → Behind (drop (k + length (packet_at packets m).payload) (unit_at units n)))
      → ComesBy false (packet_at packets m) Behind (drop k (unit_at units n))
  comes_whole n m k Behind at left starts later = by_room (cases_lt (length (packet_at packets m).payload) (size units n - k))
    where
      body_is : body packets m ≡ (packet_at packets m).payload
      body_is = ap (λ (t : Bool). cond t (drop 1 (packet_at packets m).payload) (packet_at packets m).payload) starts

      from_payload : take (size units n - k) ((packet_at packets m).payload ++ joined_behind packets m) ≡ drop k (unit_at units n)
      from_payload = ap (λ (t : List ℕ). take (size units n - k) (t ++ joined_behind packets m)) (sym body_is) ∙ left_is n m k at (omega arith)

      by_room : (length (packet_at packets m).payload < size units n - k) ⊎ (size units n - k ≤ length (packet_at packets m).payload)
          → ComesBy false (packet_at packets m) Behind (drop k (unit_at units n))
      by_room (inr short) =
          inl (size units n - k, sym (take-append-le (size units n - k) (packet_at packets m).payload (joined_behind packets m) short) ∙ from_payload)
      by_room (inl long) =
          let split : size units n - k ≡ length (packet_at packets m).payload + (size units n - k - length (packet_at packets m).payload) = omega arith in
          let parts : (packet_at packets m).payload ++ take (size units n - k - length (packet_at packets m).payload) (joined_behind packets m) ≡ drop k (unit_at units n) =
          sym (take-append-add (packet_at packets m).payload (joined_behind packets m) (size units n - k - length (packet_at packets m).payload))
          ∙ ap (λ (t : ℕ). take t ((packet_at packets m).payload ++ joined_behind packets m)) (sym split)
          ∙ from_payload in
          let behind : drop (k + length (packet_at packets m).payload) (unit_at units n) ≡ take (size units n - k - length (packet_at packets m).payload) (joined_behind packets m) =
          sym (drop-drop (length (packet_at packets m).payload) k (unit_at units n))
          ∙ ap (drop (length (packet_at packets m).payload)) (sym parts)
          ∙ drop_front (packet_at packets m).payload (take (size units n - k - length (packet_at packets m).payload) (joined_behind packets m)) in
          inr (drop (k + length (packet_at packets m).payload) (unit_at units n), ap (λ (t : List ℕ). (packet_at packets m).payload ++ t) behind ∙ parts, later long)

  -- what is left of a unit comes, where the packets that hold it are received one after another
  pub comes : (n : ℕ) → n < length units → (d m k : ℕ) (arrivals : List Arrival) → m < length packets → begin n + k ≡ edge packets (m + 1) → 1 ≤ k
      → Agrees packets d m arrivals → begin n + size units n ≤ edge packets (m + 1 + d) → Comes (packet_at packets m) arrivals (drop k (unit_at units n))
  comes n known d m k [] within at some agrees enough = drop_all k (unit_at units n) (by_length d agrees enough)
    where
      by_length : (most : ℕ) → Agrees packets most m [] → begin n + size units n ≤ edge packets (m + 1 + most) → size units n ≤ k
      by_length zero agreed ends = let same : m + 1 + 0 ≡ m + 1 = omega arith in omega (arith, ap (edge packets) same)
      by_length (suc most) agreed ends = absurd agreed
  comes n known zero m k (a ∷ arrivals) within at some agrees enough =
      let same : m + 1 + 0 ≡ m + 1 = omega arith in
      inl (drop_all k (unit_at units n) (omega (arith, ap (edge packets) same)))
  comes n known (suc d) m k (a ∷ arrivals) within at some agrees enough = by_length (cases_lt k (size units n)) (comes n known d (m + 1))
    where
      by_length : (k < size units n) ⊎ (size units n ≤ k)
          → ((l : ℕ) (rest : List Arrival) → m + 1 < length packets → begin n + l ≡ edge packets (m + 1 + 1) → 1 ≤ l → Agrees packets d (m + 1) rest
          → begin n + size units n ≤ edge packets (m + 1 + 1 + d) → Comes (packet_at packets (m + 1)) rest (drop l (unit_at units n)))
          → Comes (packet_at packets m) (a ∷ arrivals) (drop k (unit_at units n))
      by_length (inr over) later = inl (drop_all k (unit_at units n) over)
      by_length (inl left) later =
          inr (subst (λ (packet : PacketFields). (continues (packet_at packets m) packet ≡ true) × ComesBy packet.starts packet (Comes packet arrivals) (drop k (unit_at units n))) (sym agrees.0)
          (packetized.continuous m agrees.1, by_indicator (packet_at packets (m + 1)).starts refl))
        where
          here : IsLeftAt n (m + 1) k
          here = (known, agrees.1, at)

          by_indicator : (b : Bool) → (packet_at packets (m + 1)).starts ≡ b → ComesBy b (packet_at packets (m + 1)) (Comes (packet_at packets (m + 1)) arrivals) (drop k (unit_at units n))
          by_indicator true starts = comes_pointed n (m + 1) k (Comes (packet_at packets (m + 1)) arrivals) here some left starts
          by_indicator false starts =
              let body_is : body packets (m + 1) ≡ (packet_at packets (m + 1)).payload =
              ap (λ (t : Bool). cond t (drop 1 (packet_at packets (m + 1)).payload) (packet_at packets (m + 1)).payload) starts in
              let place : m + 1 + suc d ≡ m + 1 + 1 + d = omega arith in
              comes_whole n (m + 1) k (Comes (packet_at packets (m + 1)) arrivals) here left starts
              (λ long. later (k + length (packet_at packets (m + 1)).payload) arrivals agrees.1 (omega (arith, edge-next packets (m + 1) agrees.1, ap length body_is))
              (omega arith) agrees.2 (omega (arith, ap (edge packets) place)))
