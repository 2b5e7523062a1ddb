-- One packet more after some packets.
use Rattle.std.proofs.Common.{◌≡◌, ◌⊎◌, inl, inr, ℕ, zero, suc, ◌+◌, ◌≤◌, Bool, true, false, cond, not, ◌&&◌, leb, ltb, List, [], ◌∷◌, ◌++◌, length, drop, flat_map, refl, ap, sym, ◌∙◌, subst, arith, length-append, append_assoc}
use Rattle.std.proofs.lemmas.List.{append-nil, drop-drop}
use Rattle.std.proofs.lemmas.Bool.{cases_Bool}
use Rattle.std.proofs.lemmas.Grind.{flat_map-append}
use Rattle.ts_spec.specs.Form.{UnitForm, Span, more, stuffing, whole, bad, IsLawful}
use Rattle.ts_spec.specs.Packet.{PacketFields, continues, pointer, pointer_fits}
use Rattle.ts_spec.specs.Received.{Arrival, packet_of}
use Rattle.ts_spec.specs.Reassembly.{Given, with_payload, given_behind, bytes_from, outcome_of, starts_behind, starts_within, unit_starts}
use Rattle.ts_spec.specs.Events.{Event, delimit_event, event_by, event_at, misfit_events, packet_events, events_of}
use Rattle.reassembly_law.specs.UnderWay.{runs_on, is_told, Open, unless_told, open_at, open_units, last_packet, nothing_given, resumed, still_open}
use Rattle.reassembly_law.proofs.Given.{both, not_true, given_whole, with-with, given_linked, given_runs, given_more, given_ended, runs_more}
use Rattle.reassembly_law.proofs.Outcomes.{told_more, told_outcome, untold_outcome}

-- One start, with one packet more.

module _ (form : UnitForm) (lawful : IsLawful form) where
  -- the bytes of a start while nothing has ended its list
  abbrev came : Arrival → List Arrival → ℕ → List ℕ
  came a behind s = drop s (packet_of a).payload ++ (given_behind (packet_of a) behind).payloads

  -- bytes that tell leave no unit under way
  open_told : (a : Arrival) (behind : List Arrival) (s : ℕ) → is_told (form.span (came a behind s)) (length (came a behind s)) ≡ true → open_at form a behind s ≡ []
  open_told a behind s t = ap (λ (b : Bool). cond (runs_on (packet_of a) behind) (cond b [] (record { moment = a.moment; bytes = came a behind s } ∷ [])) []) t ∙ either (runs_on (packet_of a) behind)
    where
      either : (b : Bool) → cond {A = List Open} b [] [] ≡ []
      either true = refl
      either false = refl

  open_ended : (a : Arrival) (behind : List Arrival) (s : ℕ) → runs_on (packet_of a) behind ≡ false → open_at form a behind s ≡ []
  open_ended a behind s e = ap (λ (b : Bool). cond b (unless_told form a.moment (came a behind s)) []) e

  open_untold : (a : Arrival) (behind : List Arrival) (s : ℕ) → runs_on (packet_of a) behind ≡ true → is_told (form.span (came a behind s)) (length (came a behind s)) ≡ false
      → open_at form a behind s ≡ record { moment = a.moment; bytes = came a behind s } ∷ []
  open_untold a behind s e t =
      ap (λ (b : Bool). cond b (unless_told form a.moment (came a behind s)) []) e
      ∙ ap (λ (b : Bool). cond b [] (record { moment = a.moment; bytes = came a behind s } ∷ [])) t

  -- what was given, and what is given with one packet more
  given_so_far : (a : Arrival) (behind : List Arrival) (s : ℕ) → runs_on (packet_of a) behind ≡ true → bytes_from s (packet_of a) behind ≡ with_payload (came a behind s) nothing_given
  given_so_far a behind s e = ap (with_payload (drop s (packet_of a).payload)) (given_runs (packet_of a) behind e) ∙ with-with (drop s (packet_of a).payload) (given_behind (packet_of a) behind).payloads nothing_given

  given_then : (a : Arrival) (behind : List Arrival) (q : Arrival) (s : ℕ) → runs_on (packet_of a) behind ≡ true
      → bytes_from s (packet_of a) (behind ++ q ∷ []) ≡ with_payload (came a behind s) (given_behind (last_packet (packet_of a) behind) (q ∷ []))
  given_then a behind q s e = ap (with_payload (drop s (packet_of a).payload)) (given_more (packet_of a) behind q e) ∙ with-with (drop s (packet_of a).payload) (given_behind (packet_of a) behind).payloads (given_behind (last_packet (packet_of a) behind) (q ∷ []))

  event_more : (a : Arrival) (behind : List Arrival) (q : Arrival) (s : ℕ)
      → event_at form a (behind ++ q ∷ []) s ≡ event_at form a behind s ++ flat_map (resumed form (continues (last_packet (packet_of a) behind) (packet_of q)) (packet_of q)) (open_at form a behind s)
  event_more a behind q s = by_run (cases_Bool (runs_on (packet_of a) behind)) (cases_Bool (is_told (form.span (came a behind s)) (length (came a behind s))))
    where
      Ev : Given → List Event
      Ev g = event_by form a.moment (outcome_of form g)

      no_more : open_at form a behind s ≡ [] → event_at form a (behind ++ q ∷ []) s ≡ event_at form a behind s
          → event_at form a (behind ++ q ∷ []) s ≡ event_at form a behind s ++ flat_map (resumed form (continues (last_packet (packet_of a) behind) (packet_of q)) (packet_of q)) (open_at form a behind s)
      no_more none same = same ∙ sym (append-nil (event_at form a behind s)) ∙ ap (λ (t : List Open). event_at form a behind s ++ flat_map (resumed form (continues (last_packet (packet_of a) behind) (packet_of q)) (packet_of q)) t) (sym none)

      by_run : (runs_on (packet_of a) behind ≡ true) ⊎ (runs_on (packet_of a) behind ≡ false)
          → (is_told (form.span (came a behind s)) (length (came a behind s)) ≡ true) ⊎ (is_told (form.span (came a behind s)) (length (came a behind s)) ≡ false)
          → event_at form a (behind ++ q ∷ []) s ≡ event_at form a behind s ++ flat_map (resumed form (continues (last_packet (packet_of a) behind) (packet_of q)) (packet_of q)) (open_at form a behind s)
      by_run (inr e) t = no_more (open_ended a behind s e) (ap (λ (g : Given). event_by form a.moment (outcome_of form (with_payload (drop s (packet_of a).payload) g))) (given_ended (packet_of a) behind q e))
      by_run (inl e) (inl t) =
          no_more (open_told a behind s t)
          (ap (event_by form a.moment)
          (ap (outcome_of form) (given_then a behind q s e) ∙ told_outcome form lawful (came a behind s) (given_behind (last_packet (packet_of a) behind) (q ∷ [])) t
          ∙ sym (ap (outcome_of form) (given_so_far a behind s e) ∙ told_outcome form lawful (came a behind s) nothing_given t)))
      by_run (inl e) (inr t) =
          let before : event_at form a behind s ≡ [] = ap (event_by form a.moment) (ap (outcome_of form) (given_so_far a behind s e) ∙ untold_outcome form (came a behind s) t) in
          let after : event_at form a (behind ++ q ∷ []) s ≡ resumed form (continues (last_packet (packet_of a) behind) (packet_of q)) (packet_of q) (record { moment = a.moment; bytes = came a behind s }) =
          ap (λ (g : Given). event_by form a.moment (outcome_of form g)) (given_then a behind q s e) in
          after ∙ sym (append-nil (resumed form (continues (last_packet (packet_of a) behind) (packet_of q)) (packet_of q) (record { moment = a.moment; bytes = came a behind s })))
          ∙ ap (λ (t2 : List Open). flat_map (resumed form (continues (last_packet (packet_of a) behind) (packet_of q)) (packet_of q)) t2) (sym (open_untold a behind s e t))
          ∙ ap (λ (t2 : List Event). t2 ++ flat_map (resumed form (continues (last_packet (packet_of a) behind) (packet_of q)) (packet_of q)) (open_at form a behind s)) (sym before)

  -- with one packet more the unit is still under way, or not
  came_more : (a : Arrival) (behind : List Arrival) (q : Arrival) (s : ℕ) → runs_on (packet_of a) behind ≡ true → runs_on (last_packet (packet_of a) behind) (q ∷ []) ≡ true
      → came a (behind ++ q ∷ []) s ≡ came a behind s ++ (packet_of q).payload
  came_more a behind q s e f =
      let last : given_behind (last_packet (packet_of a) behind) (q ∷ []) ≡ with_payload (packet_of q).payload nothing_given =
      given_linked (last_packet (packet_of a) behind) (packet_of q) nothing_given (both (continues (last_packet (packet_of a) behind) (packet_of q)) (not (packet_of q).starts && true) f).0
      ∙ given_whole (packet_of q) nothing_given (not_true (packet_of q).starts (both (not (packet_of q).starts) true (both (continues (last_packet (packet_of a) behind) (packet_of q)) (not (packet_of q).starts && true) f).1).0) in
      ap (λ (g : Given). drop s (packet_of a).payload ++ g.payloads) (given_more (packet_of a) behind q e)
      ∙ ap (λ (g : Given). drop s (packet_of a).payload ++ ((given_behind (packet_of a) behind).payloads ++ g.payloads)) last
      ∙ ap (λ (t : List ℕ). drop s (packet_of a).payload ++ ((given_behind (packet_of a) behind).payloads ++ t)) (append-nil (packet_of q).payload)
      ∙ sym (append_assoc (drop s (packet_of a).payload) (given_behind (packet_of a) behind).payloads (packet_of q).payload)

  open_more : (a : Arrival) (behind : List Arrival) (q : Arrival) (s : ℕ)
      → open_at form a (behind ++ q ∷ []) s ≡ flat_map (still_open form (continues (last_packet (packet_of a) behind) (packet_of q)) (packet_of q)) (open_at form a behind s)
  open_more a behind q s = by_run (cases_Bool (runs_on (packet_of a) behind)) (cases_Bool (runs_on (last_packet (packet_of a) behind) (q ∷ []))) (cases_Bool (is_told (form.span (came a behind s)) (length (came a behind s))))
    where
      goal_when_ended : runs_on (packet_of a) (behind ++ q ∷ []) ≡ false → open_at form a (behind ++ q ∷ []) s ≡ []
      goal_when_ended e = open_ended a (behind ++ q ∷ []) s e

      by_run : (runs_on (packet_of a) behind ≡ true) ⊎ (runs_on (packet_of a) behind ≡ false)
          → (runs_on (last_packet (packet_of a) behind) (q ∷ []) ≡ true) ⊎ (runs_on (last_packet (packet_of a) behind) (q ∷ []) ≡ false)
          → (is_told (form.span (came a behind s)) (length (came a behind s)) ≡ true) ⊎ (is_told (form.span (came a behind s)) (length (came a behind s)) ≡ false)
          → open_at form a (behind ++ q ∷ []) s ≡ flat_map (still_open form (continues (last_packet (packet_of a) behind) (packet_of q)) (packet_of q)) (open_at form a behind s)
      by_run (inr e) f t =
          goal_when_ended (runs_more (packet_of a) behind q ∙ ap (λ (b : Bool). b && runs_on (last_packet (packet_of a) behind) (q ∷ [])) e)
          ∙ ap (flat_map (still_open form (continues (last_packet (packet_of a) behind) (packet_of q)) (packet_of q))) (sym (open_ended a behind s e))
      by_run (inl e) (inr f) (inl t) =
          goal_when_ended (runs_more (packet_of a) behind q ∙ ap (λ (b : Bool). b && runs_on (last_packet (packet_of a) behind) (q ∷ [])) e ∙ f)
          ∙ ap (flat_map (still_open form (continues (last_packet (packet_of a) behind) (packet_of q)) (packet_of q))) (sym (open_told a behind s t))
      by_run (inl e) (inr f) (inr t) =
          goal_when_ended (runs_more (packet_of a) behind q ∙ ap (λ (b : Bool). b && runs_on (last_packet (packet_of a) behind) (q ∷ [])) e ∙ f)
          ∙ sym (ap (λ (b : Bool). cond b (unless_told form a.moment (came a behind s ++ (packet_of q).payload)) [] ++ []) f)
          ∙ ap (flat_map (still_open form (continues (last_packet (packet_of a) behind) (packet_of q)) (packet_of q))) (sym (open_untold a behind s e t))
      by_run (inl e) (inl f) (inl t) =
          open_told a (behind ++ q ∷ []) s
          (ap (λ (x : List ℕ). is_told (form.span x) (length x)) (came_more a behind q s e f) ∙ told_more form lawful (came a behind s) (packet_of q).payload t)
          ∙ ap (flat_map (still_open form (continues (last_packet (packet_of a) behind) (packet_of q)) (packet_of q))) (sym (open_told a behind s t))
      by_run (inl e) (inl f) (inr t) =
          ap (λ (b : Bool). cond b (unless_told form a.moment (came a (behind ++ q ∷ []) s)) []) (runs_more (packet_of a) behind q ∙ ap (λ (b : Bool). b && runs_on (last_packet (packet_of a) behind) (q ∷ [])) e ∙ f)
          ∙ ap (unless_told form a.moment) (came_more a behind q s e f)
          ∙ sym (append-nil (unless_told form a.moment (came a behind s ++ (packet_of q).payload)))
          ∙ sym (ap (λ (b : Bool). cond b (unless_told form a.moment (came a behind s ++ (packet_of q).payload)) [] ++ []) f)
          ∙ ap (flat_map (still_open form (continues (last_packet (packet_of a) behind) (packet_of q)) (packet_of q))) (sym (open_untold a behind s e t))

  -- The starts of one packet.

  -- after a start that leaves a unit under way there is no other
  abbrev LastOnly : (ℕ → List Open) → List ℕ → Type 0
  LastOnly f [] = Unit {0}
  LastOnly f (s ∷ rest) = ((rest ≡ []) ⊎ (f s ≡ [])) × LastOnly f rest

  last_only_within : (a : Arrival) (behind : List Arrival) (most s : ℕ) (bytes : List ℕ) → bytes ≡ drop s (packet_of a).payload → LastOnly (open_at form a behind) (starts_within form most s bytes)
  last_only_within a behind zero s bytes e = tt
  last_only_within a behind (suc most) s bytes e = by_enough (ltb (length bytes) form.start)
      (by_span (form.span bytes) refl (λ s2 bytes2 e2. last_only_within a behind most s2 bytes2 e2))
    where
      by_enough : (b : Bool) → LastOnly (open_at form a behind) (starts_behind s bytes (length bytes) (form.span bytes) (starts_within form most)) → LastOnly (open_at form a behind) (cond b [] (starts_behind s bytes (length bytes) (form.span bytes) (starts_within form most)))
      by_enough true h = tt
      by_enough false h = h

      by_fit : (n : ℕ) (b : Bool) → form.span bytes ≡ whole n → leb n (length bytes) ≡ b → ((s2 : ℕ) (bytes2 : List ℕ) → bytes2 ≡ drop s2 (packet_of a).payload → LastOnly (open_at form a behind) (starts_within form most s2 bytes2))
          → LastOnly (open_at form a behind) (s ∷ cond b (starts_within form most (s + n) (drop n bytes)) [])
      by_fit n false is fits later = (inl refl, tt)
      by_fit n true is fits later = (
        inr (open_told a behind s (told_more form lawful (drop s (packet_of a).payload) (given_behind (packet_of a) behind).payloads
            (subst (λ (x : List ℕ). is_told (form.span x) (length x) ≡ true) e (ap (λ (t : Span). is_told t (length bytes)) is ∙ fits)))),
        later (s + n) (drop n bytes) (ap (drop n) e ∙ drop-drop n s (packet_of a).payload),
      )

      by_span : (sp : Span) → form.span bytes ≡ sp → ((s2 : ℕ) (bytes2 : List ℕ) → bytes2 ≡ drop s2 (packet_of a).payload → LastOnly (open_at form a behind) (starts_within form most s2 bytes2))
          → LastOnly (open_at form a behind) (starts_behind s bytes (length bytes) sp (starts_within form most))
      by_span more is later = (inl refl, tt)
      by_span stuffing is later = tt
      by_span bad is later = (inl refl, tt)
      by_span (whole n) is later = by_fit n (leb n (length bytes)) is refl later

  last_only : (a : Arrival) (behind : List Arrival) → LastOnly (open_at form a behind) (unit_starts form (packet_of a))
  last_only a behind = by_test ((packet_of a).starts && pointer_fits (packet_of a))
    where
      by_test : (b : Bool) → LastOnly (open_at form a behind) (cond b (starts_within form (length (packet_of a).payload) (1 + pointer (packet_of a)) (drop (1 + pointer (packet_of a)) (packet_of a).payload)) [])
      by_test false = tt
      by_test true = last_only_within a behind (length (packet_of a).payload) (1 + pointer (packet_of a)) (drop (1 + pointer (packet_of a)) (packet_of a).payload) refl

  -- the events of all starts, with what the packet more adds at the end
  starts_more : (old new : ℕ → List Event) (f : ℕ → List Open) (g : Open → List Event) → ((s : ℕ) → new s ≡ old s ++ flat_map g (f s)) → (starts : List ℕ) → LastOnly f starts
      → flat_map new starts ≡ flat_map old starts ++ flat_map g (flat_map f starts)
  starts_more old new f g each [] h = refl
  starts_more old new f g each (s ∷ rest) h = by_case h.0 (starts_more old new f g each rest h.1)
    where
      by_case : (rest ≡ []) ⊎ (f s ≡ []) → flat_map new rest ≡ flat_map old rest ++ flat_map g (flat_map f rest) → flat_map new (s ∷ rest) ≡ flat_map old (s ∷ rest) ++ flat_map g (flat_map f (s ∷ rest))
      by_case (inl none) later =
          subst (λ (t : List ℕ). flat_map new (s ∷ t) ≡ flat_map old (s ∷ t) ++ flat_map g (flat_map f (s ∷ t))) (sym none)
          (append-nil (new s) ∙ each s ∙ ap (λ (t : List Event). t ++ flat_map g (f s)) (sym (append-nil (old s))) ∙ ap (λ (t : List Open). (old s ++ []) ++ flat_map g t) (sym (append-nil (f s))))
      by_case (inr none) later =
          let same : new s ≡ old s = each s ∙ ap (λ (t : List Open). old s ++ flat_map g t) none ∙ append-nil (old s) in
          ap (λ (t : List Event). t ++ flat_map new rest) same
          ∙ ap (λ (t : List Event). old s ++ t) later
          ∙ sym (append_assoc (old s) (flat_map old rest) (flat_map g (flat_map f rest)))
          ∙ ap (λ (t : List Open). (old s ++ flat_map old rest) ++ flat_map g (t ++ flat_map f rest)) (sym none)

  starts_open_more : (f h : ℕ → List Open) (g : Open → List Open) → ((s : ℕ) → h s ≡ flat_map g (f s)) → (starts : List ℕ) → flat_map h starts ≡ flat_map g (flat_map f starts)
  starts_open_more f h g each [] = refl
  starts_open_more f h g each (s ∷ rest) =
      ap (λ (t : List Open). t ++ flat_map h rest) (each s) ∙ ap (λ (t : List Open). flat_map g (f s) ++ t) (starts_open_more f h g each rest)
      ∙ sym (flat_map-append g (f s) (flat_map f rest))

  none_open : (f : ℕ → List Open) → ((s : ℕ) → f s ≡ []) → (starts : List ℕ) → flat_map f starts ≡ []
  none_open f each [] = refl
  none_open f each (s ∷ rest) = ap (λ (t : List Open). t ++ flat_map f rest) (each s) ∙ none_open f each rest

  one_open : (f : ℕ → List Open) → ((s : ℕ) → length (f s) ≤ 1) → (starts : List ℕ) → LastOnly f starts → length (flat_map f starts) ≤ 1
  one_open f each [] h = omega arith
  one_open f each (s ∷ rest) h = by_case h.0 (one_open f each rest h.1)
    where
      by_case : (rest ≡ []) ⊎ (f s ≡ []) → length (flat_map f rest) ≤ 1 → length (flat_map f (s ∷ rest)) ≤ 1
      by_case (inl none) later = subst (λ (t : List ℕ). length (f s ++ flat_map f t) ≤ 1) (sym none) (omega (arith, each s, length-append (f s) []))
      by_case (inr none) later = subst (λ (t : List Open). length (t ++ flat_map f rest) ≤ 1) (sym none) later

  -- Packets.

  -- while nothing has ended the list, the packets after have no starts
  quiet : (p : PacketFields) (xs : List Arrival) → runs_on p xs ≡ true → (events_of form xs ≡ []) × (open_units form xs ≡ [])
  quiet p [] e = (refl, refl)
  quiet p (a ∷ xs) e =
      let rest : (not (packet_of a).starts && runs_on (packet_of a) xs) ≡ true = (both (continues p (packet_of a)) (not (packet_of a).starts && runs_on (packet_of a) xs) e).1 in
      let plain : (packet_of a).starts ≡ false = not_true (packet_of a).starts (both (not (packet_of a).starts) (runs_on (packet_of a) xs) rest).0 in
      let later : (events_of form xs ≡ []) × (open_units form xs ≡ []) = quiet (packet_of a) xs (both (not (packet_of a).starts) (runs_on (packet_of a) xs) rest).1 in
      let starts : unit_starts form (packet_of a) ≡ [] =
      ap (λ (b : Bool). cond (b && pointer_fits (packet_of a)) (starts_within form (length (packet_of a).payload) (1 + pointer (packet_of a)) (drop (1 + pointer (packet_of a)) (packet_of a).payload)) []) plain in
      let misfits : misfit_events (packet_of a) ≡ [] = ap (λ (b : Bool). cond {A = List Event} (b && not (pointer_fits (packet_of a))) (delimit_event ∷ []) []) plain in (
        ap (λ (t : List Event). (t ++ flat_map (event_at form a xs) (unit_starts form (packet_of a))) ++ events_of form xs) misfits
            ∙ ap (λ (t : List ℕ). flat_map (event_at form a xs) t ++ events_of form xs) starts ∙ later.0,
        ap (λ (t : List ℕ). flat_map (open_at form a xs) t ++ open_units form xs) starts ∙ later.1,
      )

  -- what the packet more adds to one packet's events stands after all events before
  regroup : (m f e p q : List Event) (r : List Event) → (r ≡ []) ⊎ (e ≡ []) → (m ++ (f ++ r)) ++ (e ++ (p ++ q)) ≡ ((m ++ f) ++ e) ++ ((r ++ p) ++ q)
  regroup m f e p q r (inl none) = subst (λ (t : List Event). (m ++ (f ++ t)) ++ (e ++ (p ++ q)) ≡ ((m ++ f) ++ e) ++ ((t ++ p) ++ q)) (sym none) (ap (λ (t : List Event). (m ++ t) ++ (e ++ (p ++ q))) (append-nil f) ∙ simp append_assoc)
  regroup m f e p q r (inr none) = subst (λ (t : List Event). (m ++ (f ++ r)) ++ (t ++ (p ++ q)) ≡ ((m ++ f) ++ t) ++ ((r ++ p) ++ q)) (sym none) (ap (λ (t : List Event). (m ++ (f ++ r)) ++ t) refl ∙ sym (ap (λ (t : List Event). t ++ ((r ++ p) ++ q)) (append-nil (m ++ f)) ∙ simp append_assoc) ∙ refl)

  pub events_more : (d : PacketFields) (xs : List Arrival) (q : Arrival)
      → events_of form (xs ++ q ∷ []) ≡ events_of form xs ++ (flat_map (resumed form (continues (last_packet d xs) (packet_of q)) (packet_of q)) (open_units form xs) ++ packet_events form q [])
  events_more d [] q = append-nil (packet_events form q [])
  events_more d (a ∷ xs) q =
      ap (λ (t : List Event). (misfit_events (packet_of a) ++ t) ++ events_of form (xs ++ q ∷ []))
      (starts_more (event_at form a xs) (event_at form a (xs ++ q ∷ [])) (open_at form a xs) (resumed form (continues (last_packet (packet_of a) xs) (packet_of q)) (packet_of q)) (event_more a xs q) (unit_starts form (packet_of a)) (last_only a xs))
      ∙ ap (λ (t : List Event). (misfit_events (packet_of a) ++ (flat_map (event_at form a xs) (unit_starts form (packet_of a)) ++ flat_map (resumed form (continues (last_packet (packet_of a) xs) (packet_of q)) (packet_of q)) (flat_map (open_at form a xs) (unit_starts form (packet_of a))))) ++ t)
      (events_more (packet_of a) xs q)
      ∙ regroup (misfit_events (packet_of a)) (flat_map (event_at form a xs) (unit_starts form (packet_of a))) (events_of form xs)
      (flat_map (resumed form (continues (last_packet (packet_of a) xs) (packet_of q)) (packet_of q)) (open_units form xs)) (packet_events form q [])
      (flat_map (resumed form (continues (last_packet (packet_of a) xs) (packet_of q)) (packet_of q)) (flat_map (open_at form a xs) (unit_starts form (packet_of a))))
      (by_run (cases_Bool (runs_on (packet_of a) xs)))
      ∙ ap (λ (t : List Event). (packet_events form a xs ++ events_of form xs) ++ (t ++ packet_events form q []))
      (sym (flat_map-append (resumed form (continues (last_packet (packet_of a) xs) (packet_of q)) (packet_of q)) (flat_map (open_at form a xs) (unit_starts form (packet_of a))) (open_units form xs)))
    where
      by_run : (runs_on (packet_of a) xs ≡ true) ⊎ (runs_on (packet_of a) xs ≡ false)
          → (flat_map (resumed form (continues (last_packet (packet_of a) xs) (packet_of q)) (packet_of q)) (flat_map (open_at form a xs) (unit_starts form (packet_of a))) ≡ []) ⊎ (events_of form xs ≡ [])
      by_run (inl e) = inr (quiet (packet_of a) xs e).0
      by_run (inr e) = inl (ap (flat_map (resumed form (continues (last_packet (packet_of a) xs) (packet_of q)) (packet_of q))) (none_open (open_at form a xs) (λ s. open_ended a xs s e) (unit_starts form (packet_of a))))

  pub under_way_more : (d : PacketFields) (xs : List Arrival) (q : Arrival)
      → open_units form (xs ++ q ∷ []) ≡ flat_map (still_open form (continues (last_packet d xs) (packet_of q)) (packet_of q)) (open_units form xs) ++ flat_map (open_at form q []) (unit_starts form (packet_of q))
  under_way_more d [] q = append-nil (flat_map (open_at form q []) (unit_starts form (packet_of q)))
  under_way_more d (a ∷ xs) q =
      ap (λ (t : List Open). t ++ open_units form (xs ++ q ∷ [])) (starts_open_more (open_at form a xs) (open_at form a (xs ++ q ∷ [])) (still_open form (continues (last_packet (packet_of a) xs) (packet_of q)) (packet_of q)) (open_more a xs q) (unit_starts form (packet_of a)))
      ∙ ap (λ (t : List Open). flat_map (still_open form (continues (last_packet (packet_of a) xs) (packet_of q)) (packet_of q)) (flat_map (open_at form a xs) (unit_starts form (packet_of a))) ++ t) (under_way_more (packet_of a) xs q)
      ∙ sym (append_assoc (flat_map (still_open form (continues (last_packet (packet_of a) xs) (packet_of q)) (packet_of q)) (flat_map (open_at form a xs) (unit_starts form (packet_of a)))) (flat_map (still_open form (continues (last_packet (packet_of a) xs) (packet_of q)) (packet_of q)) (open_units form xs)) (flat_map (open_at form q []) (unit_starts form (packet_of q))))
      ∙ ap (λ (t : List Open). t ++ flat_map (open_at form q []) (unit_starts form (packet_of q)))
      (sym (flat_map-append (still_open form (continues (last_packet (packet_of a) xs) (packet_of q)) (packet_of q)) (flat_map (open_at form a xs) (unit_starts form (packet_of a))) (open_units form xs)))

  open_least : (a : Arrival) (behind : List Arrival) (s : ℕ) → length (open_at form a behind s) ≤ 1
  open_least a behind s = by_test (runs_on (packet_of a) behind) (is_told (form.span (came a behind s)) (length (came a behind s)))
    where
      by_test : (b t : Bool) → length {A = Open} (cond {A = List Open} b (cond {A = List Open} t [] (record { moment = a.moment; bytes = came a behind s } ∷ [])) []) ≤ 1
      by_test true true = omega arith
      by_test true false = omega arith
      by_test false t = omega arith

  pub one_under_way : (xs : List Arrival) → length (open_units form xs) ≤ 1
  one_under_way [] = omega arith
  one_under_way (a ∷ xs) = by_run (cases_Bool (runs_on (packet_of a) xs)) (one_under_way xs) (one_open (open_at form a xs) (open_least a xs) (unit_starts form (packet_of a)) (last_only a xs))
    where
      by_run : (runs_on (packet_of a) xs ≡ true) ⊎ (runs_on (packet_of a) xs ≡ false) → length (open_units form xs) ≤ 1 → length (flat_map (open_at form a xs) (unit_starts form (packet_of a))) ≤ 1
          → length (flat_map (open_at form a xs) (unit_starts form (packet_of a)) ++ open_units form xs) ≤ 1
      by_run (inl e) later here = omega (arith, here, ap length (quiet (packet_of a) xs e).1, length-append (flat_map (open_at form a xs) (unit_starts form (packet_of a))) (open_units form xs))
      by_run (inr e) later here =
          let none : flat_map (open_at form a xs) (unit_starts form (packet_of a)) ≡ [] = none_open (open_at form a xs) (λ s. open_ended a xs s e) (unit_starts form (packet_of a)) in
          subst (λ (t : List Open). length (t ++ open_units form xs) ≤ 1) (sym none) later
