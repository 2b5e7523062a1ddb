-- What is given after a packet, with one packet more.
use Rattle.std.proofs.Common.{◌≡◌, ℕ, Bool, true, false, cond, not, ◌&&◌, List, [], ◌∷◌, ◌++◌, take, drop, refl, ap, sym, ◌∙◌, append_assoc}
use Rattle.ts_spec.specs.Packet.{PacketFields, continues, pointer, pointer_fits}
use Rattle.ts_spec.specs.Received.{Arrival, packet_of}
use Rattle.ts_spec.specs.Reassembly.{Given, with_payload, ended_by, given_by, given_behind}
use Rattle.reassembly_law.specs.UnderWay.{runs_on, last_packet, nothing_given}

pub both : (x y : Bool) → (x && y) ≡ true → (x ≡ true) × (y ≡ true)
both true y e = (refl, e)
both false y e = absurd (cc)

pub not_true : (b : Bool) → not b ≡ true → b ≡ false
not_true true e = absurd (cc)
not_true false e = refl

pub given_whole : (q : PacketFields) (g : Given) → q.starts ≡ false → given_by q g ≡ with_payload q.payload g
given_whole q g s = ap (λ (b : Bool). cond b (cond (pointer_fits q) (record { payloads = []; rest = take (pointer q) (drop 1 q.payload); is_ended = true }) (ended_by q)) (with_payload q.payload g)) s

-- with the start indicator nothing after matters
pub given_start : (q : PacketFields) (g h : Given) → q.starts ≡ true → given_by q g ≡ given_by q h
given_start q g h s =
    ap (λ (b : Bool). cond b (cond (pointer_fits q) (record { payloads = []; rest = take (pointer q) (drop 1 q.payload); is_ended = true }) (ended_by q)) (with_payload q.payload g)) s
    ∙ sym (ap (λ (b : Bool). cond b (cond (pointer_fits q) (record { payloads = []; rest = take (pointer q) (drop 1 q.payload); is_ended = true }) (ended_by q)) (with_payload q.payload h)) s)

pub with-with : (x y : List ℕ) (g : Given) → with_payload x (with_payload y g) ≡ with_payload (x ++ y) g
with-with x y g = ap (λ (t : List ℕ). record { payloads = t; rest = g.rest; is_ended = g.is_ended }) (sym (append_assoc x y g.payloads))

pub given_linked : (p q : PacketFields) (g : Given) → continues p q ≡ true → cond (continues p q) (given_by q g) (ended_by q) ≡ given_by q g
given_linked p q g e = ap (λ (b : Bool). cond b (given_by q g) (ended_by q)) e

-- while nothing has ended the list, whole payloads are given
pub given_runs : (p : PacketFields) (xs : List Arrival) → runs_on p xs ≡ true → given_behind p xs ≡ with_payload (given_behind p xs).payloads nothing_given
given_runs p [] e = refl
given_runs p (a ∷ xs) e =
    let linked : continues p (packet_of a) ≡ true = (both (continues p (packet_of a)) (not (packet_of a).starts && runs_on (packet_of a) xs) e).0 in
    let rest : (not (packet_of a).starts && runs_on (packet_of a) xs) ≡ true = (both (continues p (packet_of a)) (not (packet_of a).starts && runs_on (packet_of a) xs) e).1 in
    let plain : (packet_of a).starts ≡ false = not_true (packet_of a).starts (both (not (packet_of a).starts) (runs_on (packet_of a) xs) rest).0 in
    let shape : given_behind p (a ∷ xs) ≡ with_payload (packet_of a).payload (given_behind (packet_of a) xs) =
    given_linked p (packet_of a) (given_behind (packet_of a) xs) linked ∙ given_whole (packet_of a) (given_behind (packet_of a) xs) plain in
    let behind : given_behind (packet_of a) xs ≡ with_payload (given_behind (packet_of a) xs).payloads nothing_given =
    given_runs (packet_of a) xs (both (not (packet_of a).starts) (runs_on (packet_of a) xs) rest).1 in
    shape ∙ ap (with_payload (packet_of a).payload) behind ∙ with-with (packet_of a).payload (given_behind (packet_of a) xs).payloads nothing_given
    ∙ ap (λ (t : List ℕ). with_payload t nothing_given) (sym (ap (λ (g : Given). g.payloads) shape))

-- while nothing has ended the list, the packet is added after what is given
pub given_more : (p : PacketFields) (xs : List Arrival) (q : Arrival) → runs_on p xs ≡ true
    → given_behind p (xs ++ q ∷ []) ≡ with_payload (given_behind p xs).payloads (given_behind (last_packet p xs) (q ∷ []))
given_more p [] q e = refl
given_more p (a ∷ xs) q e =
    let linked : continues p (packet_of a) ≡ true = (both (continues p (packet_of a)) (not (packet_of a).starts && runs_on (packet_of a) xs) e).0 in
    let rest : (not (packet_of a).starts && runs_on (packet_of a) xs) ≡ true = (both (continues p (packet_of a)) (not (packet_of a).starts && runs_on (packet_of a) xs) e).1 in
    let plain : (packet_of a).starts ≡ false = not_true (packet_of a).starts (both (not (packet_of a).starts) (runs_on (packet_of a) xs) rest).0 in
    let shape : given_behind p (a ∷ xs) ≡ with_payload (packet_of a).payload (given_behind (packet_of a) xs) =
    given_linked p (packet_of a) (given_behind (packet_of a) xs) linked ∙ given_whole (packet_of a) (given_behind (packet_of a) xs) plain in
    let longer : given_behind p (a ∷ (xs ++ q ∷ [])) ≡ with_payload (packet_of a).payload (given_behind (packet_of a) (xs ++ q ∷ [])) =
    given_linked p (packet_of a) (given_behind (packet_of a) (xs ++ q ∷ [])) linked ∙ given_whole (packet_of a) (given_behind (packet_of a) (xs ++ q ∷ [])) plain in
    longer ∙ ap (with_payload (packet_of a).payload) (given_more (packet_of a) xs q (both (not (packet_of a).starts) (runs_on (packet_of a) xs) rest).1)
    ∙ with-with (packet_of a).payload (given_behind (packet_of a) xs).payloads (given_behind (last_packet (packet_of a) xs) (q ∷ []))
    ∙ ap (λ (t : List ℕ). with_payload t (given_behind (last_packet (packet_of a) xs) (q ∷ []))) (sym (ap (λ (g : Given). g.payloads) shape))

-- once the list has ended a packet after changes nothing
pub given_ended : (p : PacketFields) (xs : List Arrival) (q : Arrival) → runs_on p xs ≡ false → given_behind p (xs ++ q ∷ []) ≡ given_behind p xs
given_ended p [] q e = absurd (cc)
given_ended p (a ∷ xs) q e = by_link (continues p (packet_of a)) (packet_of a).starts refl e (given_ended (packet_of a) xs q)
  where
    by_start : (s : Bool) → (packet_of a).starts ≡ s → (not s && runs_on (packet_of a) xs) ≡ false → (runs_on (packet_of a) xs ≡ false → given_behind (packet_of a) (xs ++ q ∷ []) ≡ given_behind (packet_of a) xs)
        → given_by (packet_of a) (given_behind (packet_of a) (xs ++ q ∷ [])) ≡ given_by (packet_of a) (given_behind (packet_of a) xs)
    by_start true s e2 later = given_start (packet_of a) (given_behind (packet_of a) (xs ++ q ∷ [])) (given_behind (packet_of a) xs) s
    by_start false s e2 later = ap (given_by (packet_of a)) (later e2)

    by_link : (c s : Bool) → (packet_of a).starts ≡ s → (c && (not (packet_of a).starts && runs_on (packet_of a) xs)) ≡ false → (runs_on (packet_of a) xs ≡ false → given_behind (packet_of a) (xs ++ q ∷ []) ≡ given_behind (packet_of a) xs)
        → cond c (given_by (packet_of a) (given_behind (packet_of a) (xs ++ q ∷ []))) (ended_by (packet_of a)) ≡ cond c (given_by (packet_of a) (given_behind (packet_of a) xs)) (ended_by (packet_of a))
    by_link false s is e2 later = refl
    by_link true s is e2 later = by_start s is (ap (λ (b : Bool). not b && runs_on (packet_of a) xs) (sym is) ∙ e2) later

pub and_more : (x y r z : Bool) → (x && (y && (r && z))) ≡ ((x && (y && r)) && z)
and_more false y r z = refl
and_more true false r z = refl
and_more true true r z = refl

pub runs_more : (p : PacketFields) (xs : List Arrival) (q : Arrival) → runs_on p (xs ++ q ∷ []) ≡ (runs_on p xs && runs_on (last_packet p xs) (q ∷ []))
runs_more p [] q = refl
runs_more p (a ∷ xs) q =
    ap (λ (t : Bool). continues p (packet_of a) && (not (packet_of a).starts && t)) (runs_more (packet_of a) xs q)
    ∙ and_more (continues p (packet_of a)) (not (packet_of a).starts) (runs_on (packet_of a) xs) (runs_on (last_packet (packet_of a) xs) (q ∷ []))
