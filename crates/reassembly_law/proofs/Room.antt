-- A unit under way is no stuffing, and shorter than the longest unit.
use Rattle.std.proofs.Common.{◌≡◌, ◌⊎◌, inl, inr, ℕ, zero, suc, ◌+◌, ◌<◌, ◌≤◌, Bool, true, false, cond, ◌&&◌, leb, ltb, List, [], ◌∷◌, ◌++◌, length, take, drop, get_or, flat_map, refl, ap, sym, ◌∙◌, subst, arith, length-append}
use Rattle.std.specs.Prelude.{Contains}
use Rattle.std.proofs.lemmas.List.{take-append-le, take-append-drop, drop-drop}
use Rattle.ts_spec.specs.Form.{UnitForm, Span, more, stuffing, whole, bad, IsLawful}
use Rattle.ts_spec.specs.Packet.{PacketFields, pointer, pointer_fits}
use Rattle.ts_spec.specs.Received.{Arrival, packet_of}
use Rattle.ts_spec.specs.Reassembly.{given_behind, starts_behind, starts_within, unit_starts}
use Rattle.reassembly_law.specs.UnderWay.{Open, is_told, runs_on, open_at, open_units, IsUnderWay, AreUnderWay}

-- an item of a list, by recursion
abbrev Member : {X : Type 0} → List X → X → Type 0
Member [] x = ⊥
Member (y ∷ ys) x = (y ≡ x) ⊎ Member ys x

member_contains : {X : Type 0} (xs : List X) (x : X) → Contains xs x → Member xs x
member_contains [] x c = absurd (omega (arith, c.1))
member_contains {X} (y ∷ xs) x c = by_place (member_contains xs x) c.0 c.1 c.2
  where
    by_place : (Contains xs x → Member xs x) → (k : ℕ) → k < suc (length xs) → get_or (y ∷ xs) k x ≡ x → Member (y ∷ xs) x
    by_place later zero lt e = inl e
    by_place later (suc k) lt e = inr (later (k, omega arith, e))

member_parted : {X : Type 0} (xs ys : List X) (x : X) → Member (xs ++ ys) x → Member xs x ⊎ Member ys x
member_parted [] ys x h = inr h
member_parted (y ∷ xs) ys x (inl e) = inl (inl e)
member_parted (y ∷ xs) ys x (inr h) = in_front (member_parted xs ys x h)
  where
    in_front : Member xs x ⊎ Member ys x → Member (y ∷ xs) x ⊎ Member ys x
    in_front (inl m) = inl (inr m)
    in_front (inr m) = inr m

not_less : (a b : ℕ) → ltb a b ≡ false → b ≤ a
not_less a b e = grind (arith, e)

not_within : (a b : ℕ) → leb a b ≡ false → b < a
not_within a b e = grind (arith, e)

module _ (form : UnitForm) (lawful : IsLawful form) where
  -- a start has enough bytes in its packet, and they are no stuffing
  record IsStart (payload : List ℕ) (s : ℕ) : Type 0 where
    enough : form.start ≤ length (drop s payload)
    no_stuffing : form.span (drop s payload) ≡ stuffing → ⊥

  starts_good : (payload : List ℕ) (most p : ℕ) (bytes : List ℕ) (s : ℕ) → bytes ≡ drop p payload
      → Member (starts_within form most p bytes) s → IsStart payload s
  starts_good payload zero p bytes s e m = absurd m
  starts_good payload (suc most) p bytes s e m =
      by_enough (λ p2 bytes2 e2 m2. starts_good payload most p2 bytes2 s e2 m2) (ltb (length bytes) form.start) refl m
    where
      here : form.start ≤ length bytes → (form.span bytes ≡ stuffing → ⊥) → p ≡ s → IsStart payload s
      here le no_it same =
          let place : bytes ≡ drop s payload = e ∙ ap (λ (t : ℕ). drop t payload) same in
          record {
            enough = subst (λ (t : List ℕ). form.start ≤ length t) place le;
            no_stuffing = subst (λ (t : List ℕ). form.span t ≡ stuffing → ⊥) place no_it;
          }

      by_fit : (n : ℕ) (b : Bool) → form.start ≤ length bytes → (form.span bytes ≡ stuffing → ⊥)
          → ((p2 : ℕ) (bytes2 : List ℕ) → bytes2 ≡ drop p2 payload → Member (starts_within form most p2 bytes2) s → IsStart payload s)
          → Member (p ∷ cond b (starts_within form most (p + n) (drop n bytes)) []) s → IsStart payload s
      by_fit n b le no_it later (inl same) = here le no_it same
      by_fit n true le no_it later (inr m2) = later (p + n) (drop n bytes) (ap (drop n) e ∙ drop-drop n p payload) m2
      by_fit n false le no_it later (inr m2) = absurd m2

      only : form.start ≤ length bytes → (form.span bytes ≡ stuffing → ⊥) → Member (p ∷ []) s → IsStart payload s
      only le no_it (inl same) = here le no_it same
      only le no_it (inr m2) = absurd m2

      by_span : (sp : Span) → form.span bytes ≡ sp → form.start ≤ length bytes
          → ((p2 : ℕ) (bytes2 : List ℕ) → bytes2 ≡ drop p2 payload → Member (starts_within form most p2 bytes2) s → IsStart payload s)
          → Member (starts_behind p bytes (length bytes) sp (starts_within form most)) s → IsStart payload s
      by_span more is le later m2 = only le (λ x. cc (x, is)) m2
      by_span bad is le later m2 = only le (λ x. cc (x, is)) m2
      by_span stuffing is le later m2 = absurd m2
      by_span (whole n) is le later m2 = by_fit n (leb n (length bytes)) le (λ x. cc (x, is)) later m2

      by_enough : ((p2 : ℕ) (bytes2 : List ℕ) → bytes2 ≡ drop p2 payload → Member (starts_within form most p2 bytes2) s → IsStart payload s)
          → (b : Bool) → ltb (length bytes) form.start ≡ b
          → Member (cond b [] (starts_behind p bytes (length bytes) (form.span bytes) (starts_within form most))) s → IsStart payload s
      by_enough later true t m2 = absurd m2
      by_enough later false t m2 = by_span (form.span bytes) refl (not_less (length bytes) form.start t) later m2

  packet_starts : (packet : PacketFields) (s : ℕ) → Member (unit_starts form packet) s → IsStart packet.payload s
  packet_starts packet s m = by_test (packet.starts && pointer_fits packet) m
    where
      by_test : (b : Bool)
          → Member (cond b (starts_within form (length packet.payload) (1 + pointer packet) (drop (1 + pointer packet) packet.payload)) []) s
          → IsStart packet.payload s
      by_test true m2 = starts_good packet.payload (length packet.payload) (1 + pointer packet) (drop (1 + pointer packet) packet.payload) s refl m2
      by_test false m2 = absurd m2

  -- bytes after a start are no stuffing either
  pub stays_unit : (front behind : List ℕ) → form.start ≤ length front → (form.span front ≡ stuffing → ⊥) → form.span (front ++ behind) ≡ stuffing → ⊥
  stays_unit front behind enough no_it e = by_told (lawful.told (take form.start front) (drop form.start front))
    where
      start_is : form.span (take form.start front) ≡ stuffing
      start_is = ap form.span (sym (take-append-le form.start front behind enough)) ∙ lawful.stuffing_start (front ++ behind) e

      by_told : (form.span (take form.start front) ≡ more) ⊎ (form.span (take form.start front ++ drop form.start front) ≡ form.span (take form.start front)) → ⊥
      by_told (inl x) = cc (x, start_is)
      by_told (inr x) = no_it (ap form.span (sym (take-append-drop form.start front)) ∙ x ∙ start_is)

  -- bytes that tell no outcome are shorter than the longest unit
  pub untold_short : (bytes : List ℕ) → (form.span bytes ≡ stuffing → ⊥) → is_told (form.span bytes) (length bytes) ≡ false
      → length bytes < form.longest
  untold_short bytes no_it t = by_span (form.span bytes) refl t
    where
      by_span : (sp : Span) → form.span bytes ≡ sp → is_told sp (length bytes) ≡ false → length bytes < form.longest
      by_span more is t2 = omega (arith, lawful.soon bytes is, lawful.longest_least)
      by_span stuffing is t2 = absurd (no_it is)
      by_span bad is t2 = absurd (cc)
      by_span (whole n) is t2 = omega (arith, not_within n (length bytes) t2, lawful.whole_most bytes n is)

  open_good : (a : Arrival) (behind : List Arrival) (s : ℕ) → IsStart (packet_of a).payload s
      → (o : Open) → Member (open_at form a behind s) o → IsUnderWay form o.bytes
  open_good a behind s start o m =
      by_run (runs_on (packet_of a) behind) (drop s (packet_of a).payload) (given_behind (packet_of a) behind).payloads start.enough start.no_stuffing m
    where
      good : (front came : List ℕ) → form.start ≤ length front → (form.span front ≡ stuffing → ⊥)
          → is_told (form.span (front ++ came)) (length (front ++ came)) ≡ false → IsUnderWay form (front ++ came)
      good front came le no_it t = record {
        enough = omega (arith, le, length-append front came);
        no_stuffing = stays_unit front came le no_it;
        untold = t;
        fits = untold_short (front ++ came) (stays_unit front came le no_it) t;
      }

      by_told : (front came : List ℕ) → form.start ≤ length front → (form.span front ≡ stuffing → ⊥)
          → (t : Bool) → is_told (form.span (front ++ came)) (length (front ++ came)) ≡ t
          → Member (cond {A = List Open} t [] (record { moment = a.moment; bytes = front ++ came } ∷ [])) o → IsUnderWay form o.bytes
      by_told front came le no_it true e m2 = absurd m2
      by_told front came le no_it false e (inl same) = subst (λ (x : Open). IsUnderWay form x.bytes) same (good front came le no_it e)
      by_told front came le no_it false e (inr never) = absurd never

      by_run : (r : Bool) (front came : List ℕ) → form.start ≤ length front → (form.span front ≡ stuffing → ⊥)
          → Member (cond {A = List Open} r (cond {A = List Open} (is_told (form.span (front ++ came)) (length (front ++ came))) [] (record { moment = a.moment; bytes = front ++ came } ∷ [])) []) o
          → IsUnderWay form o.bytes
      by_run true front came le no_it m2 = by_told front came le no_it (is_told (form.span (front ++ came)) (length (front ++ came))) refl m2
      by_run false front came le no_it m2 = absurd m2

  opens_good : (a : Arrival) (behind : List Arrival) (starts : List ℕ) → ((s : ℕ) → Member starts s → IsStart (packet_of a).payload s)
      → (o : Open) → Member (flat_map (open_at form a behind) starts) o → IsUnderWay form o.bytes
  opens_good a behind [] good o m = absurd m
  opens_good a behind (s ∷ starts) good o m =
      by_part (opens_good a behind starts (λ t mt. good t (inr mt)) o)
      (member_parted (open_at form a behind s) (flat_map (open_at form a behind) starts) o m)
    where
      by_part : (Member (flat_map (open_at form a behind) starts) o → IsUnderWay form o.bytes)
          → Member (open_at form a behind s) o ⊎ Member (flat_map (open_at form a behind) starts) o → IsUnderWay form o.bytes
      by_part later (inl m2) = open_good a behind s (good s (inl refl)) o m2
      by_part later (inr m2) = later m2

  all_good : (xs : List Arrival) → (o : Open) → Member (open_units form xs) o → IsUnderWay form o.bytes
  all_good [] o m = absurd m
  all_good (a ∷ xs) o m =
      by_part (all_good xs o) (member_parted (flat_map (open_at form a xs) (unit_starts form (packet_of a))) (open_units form xs) o m)
    where
      by_part : (Member (open_units form xs) o → IsUnderWay form o.bytes)
          → Member (flat_map (open_at form a xs) (unit_starts form (packet_of a))) o ⊎ Member (open_units form xs) o → IsUnderWay form o.bytes
      by_part later (inl m2) = opens_good a xs (unit_starts form (packet_of a)) (packet_starts (packet_of a)) o m2
      by_part later (inr m2) = later m2

  pub are_under_way : (packets : List Arrival) → AreUnderWay form packets
  are_under_way packets = λ o c. all_good packets o (member_contains (open_units form packets) o c)
