-- What one packet makes of a unit under way, by the bytes that the buffer then holds.
use Rattle.std.proofs.Common.{◌≡◌, ◌⊎◌, inl, inr, ℕ, ◌<◌, ◌≤◌, Bool, true, false, cond, not, ◌&&◌, min, leb, List, [], ◌∷◌, ◌++◌, length, take, drop, refl, ap, sym, ◌∙◌, subst, arith, None}
use Rattle.std.proofs.lemmas.List.{append-nil, take-append-drop, take_all, length-take, length-take-le, take-take}
use Rattle.ts_spec.specs.Form.{UnitForm, Span, more, stuffing, whole, bad, IsLawful}
use Rattle.ts_spec.specs.Packet.{PacketFields}
use Rattle.ts_spec.specs.Reassembly.{Given, with_payload, candidate, bad_length, outcome_of}
use Rattle.ts_spec.specs.Events.{event_by}
use Rattle.reassembly_law.specs.UnderWay.{Open, is_told, unless_told, nothing_given, given_next, resumed, still_open, IsUnderWay}
use Rattle.reassembly_law.proofs.Given.{given_whole, with-with}
use Rattle.reassembly_law.proofs.Outcomes.{told_by, leb_true, true_leb, false_leb, told_outcome, untold_outcome}
use Rattle.reassembly_law.proofs.Room.{stays_unit}
use Rattle.unit_stream.specs.Joining.{drained, giving}
use Rattle.unit_stream.specs.Steps.{GoesOn}

module _ (form : UnitForm) (lawful : IsLawful form) where
  -- as many bytes as a buffer holds tell the same as all
  pub span-take : (all : List ℕ) → form.span (take form.longest all) ≡ form.span all
  span-take all = by_size (leb (length all) form.longest) refl
    where
      by_told : form.longest < length all
          → (form.span (take form.longest all) ≡ more) ⊎ (form.span (take form.longest all ++ drop form.longest all) ≡ form.span (take form.longest all))
          → form.span (take form.longest all) ≡ form.span all
      by_told less (inl e) = absurd (omega (arith, lawful.soon (take form.longest all) e, length-take-le form.longest all (omega arith), lawful.longest_least))
      by_told less (inr e) = sym e ∙ ap form.span (take-append-drop form.longest all)

      by_size : (b : Bool) → leb (length all) form.longest ≡ b → form.span (take form.longest all) ≡ form.span all
      by_size true e = ap form.span (take_all form.longest all (true_leb (length all) form.longest e))
      by_size false e = by_told (false_leb (length all) form.longest e) (lawful.told (take form.longest all) (drop form.longest all))

  -- A continuous packet without the start indicator.

  given_all : (bytes : List ℕ) (packet : PacketFields) → packet.starts ≡ false
      → with_payload bytes (given_next true packet) ≡ with_payload (bytes ++ packet.payload) nothing_given
  given_all bytes packet plain = ap (with_payload bytes) (given_whole packet nothing_given plain) ∙ with-with bytes packet.payload nothing_given

  stays_open : (unit : Open) (packet : PacketFields) → packet.starts ≡ false
      → still_open form true packet unit ≡ unless_told form unit.moment (unit.bytes ++ packet.payload)
  stays_open unit packet plain = ap (λ (s : Bool). cond {A = List Open} (not s && true) (unless_told form unit.moment (unit.bytes ++ packet.payload)) []) plain

  told_goes : (unit : Open) (packet : PacketFields) → packet.starts ≡ false
      → is_told (form.span (unit.bytes ++ packet.payload)) (length (unit.bytes ++ packet.payload)) ≡ true
      → (resumed form true packet unit ≡ event_by form unit.moment (told_by (form.span (unit.bytes ++ packet.payload)) (unit.bytes ++ packet.payload)))
      × (still_open form true packet unit ≡ [])
  told_goes unit packet plain told = (
    ap (λ (g : Given). event_by form unit.moment (outcome_of form g)) (given_all unit.bytes packet plain)
        ∙ ap (event_by form unit.moment) (told_outcome form lawful (unit.bytes ++ packet.payload) nothing_given told),
    stays_open unit packet plain
        ∙ ap (λ (b : Bool). cond {A = List Open} b [] (record { moment = unit.moment; bytes = unit.bytes ++ packet.payload } ∷ [])) told,
  )

  untold_goes : (unit : Open) (packet : PacketFields) → packet.starts ≡ false
      → is_told (form.span (unit.bytes ++ packet.payload)) (length (unit.bytes ++ packet.payload)) ≡ false
      → (resumed form true packet unit ≡ []) × (still_open form true packet unit ≡ record { moment = unit.moment; bytes = unit.bytes ++ packet.payload } ∷ [])
  untold_goes unit packet plain untold = (
    ap (λ (g : Given). event_by form unit.moment (outcome_of form g)) (given_all unit.bytes packet plain)
        ∙ ap (event_by form unit.moment) (untold_outcome form (unit.bytes ++ packet.payload) untold),
    stays_open unit packet plain
        ∙ ap (λ (b : Bool). cond {A = List Open} b [] (record { moment = unit.moment; bytes = unit.bytes ++ packet.payload } ∷ [])) untold,
  )

  -- what the buffer holds: as many of the bytes as there is room for
  module _ (unit : Open) (packet : PacketFields) (plain : packet.starts ≡ false) (joined : List ℕ) (held : joined ≡ take form.longest (unit.bytes ++ packet.payload)) where
    span_is : form.span joined ≡ form.span (unit.bytes ++ packet.payload)
    span_is = ap form.span held ∙ span-take (unit.bytes ++ packet.payload)

    held_size : length joined ≤ length (unit.bytes ++ packet.payload)
    held_size =
        let size : length joined ≡ min form.longest (length (unit.bytes ++ packet.payload)) = ap length held ∙ length-take form.longest (unit.bytes ++ packet.payload) in
        omega arith

    pub goes_whole : (n : ℕ) → form.span joined ≡ whole n → n ≤ length joined → GoesOn form unit packet (giving unit.moment (candidate (take n joined)) None)
    goes_whole n told within =
        let span_all : form.span (unit.bytes ++ packet.payload) ≡ whole n = sym span_is ∙ told in
        let is_whole : is_told (form.span (unit.bytes ++ packet.payload)) (length (unit.bytes ++ packet.payload)) ≡ true =
        ap (λ (s : Span). is_told s (length (unit.bytes ++ packet.payload))) span_all ∙ leb_true n (length (unit.bytes ++ packet.payload)) (omega (arith, held_size)) in
        let front : take n joined ≡ take n (unit.bytes ++ packet.payload) =
        ap (take n) held ∙ take-take n form.longest (unit.bytes ++ packet.payload) (lawful.whole_most joined n told) in
        record {
          events = append-nil (event_by form unit.moment (candidate (take n joined)))
              ∙ ap (λ (t : List ℕ). event_by form unit.moment (candidate t)) front
              ∙ sym ((told_goes unit packet plain is_whole).0 ∙ ap (λ (s : Span). event_by form unit.moment (told_by s (unit.bytes ++ packet.payload))) span_all);
          under_way = sym (told_goes unit packet plain is_whole).1;
        }

    pub goes_bad : form.span joined ≡ bad → GoesOn form unit packet (giving 0 bad_length None)
    goes_bad told =
        let span_all : form.span (unit.bytes ++ packet.payload) ≡ bad = sym span_is ∙ told in
        let is_bad : is_told (form.span (unit.bytes ++ packet.payload)) (length (unit.bytes ++ packet.payload)) ≡ true =
        ap (λ (s : Span). is_told s (length (unit.bytes ++ packet.payload))) span_all in
        record {
          events = sym ((told_goes unit packet plain is_bad).0 ∙ ap (λ (s : Span). event_by form unit.moment (told_by s (unit.bytes ++ packet.payload))) span_all);
          under_way = sym (told_goes unit packet plain is_bad).1;
        }

    -- what leaves the outcome open is held whole
    held_whole : IsUnderWay form unit.bytes → is_told (form.span joined) (length joined) ≡ false → joined ≡ unit.bytes ++ packet.payload
    held_whole good untold = by_size (leb (length (unit.bytes ++ packet.payload)) form.longest) refl
      where
        cut_short : form.longest < length (unit.bytes ++ packet.payload) → length joined ≡ form.longest
        cut_short less = ap length held ∙ length-take-le form.longest (unit.bytes ++ packet.payload) (omega arith)

        by_span : (s : Span) → form.span joined ≡ s → form.longest < length (unit.bytes ++ packet.payload) → is_told s (length joined) ≡ false → ⊥
        by_span more e less u = omega (arith, lawful.soon joined e, cut_short less, lawful.longest_least)
        by_span stuffing e less u = stays_unit form lawful unit.bytes packet.payload good.enough good.no_stuffing (sym span_is ∙ e)
        by_span bad e less u = cc
        by_span (whole n) e less u = omega (arith, false_leb n (length joined) u, cut_short less, lawful.whole_most joined n e)

        by_size : (b : Bool) → leb (length (unit.bytes ++ packet.payload)) form.longest ≡ b → joined ≡ unit.bytes ++ packet.payload
        by_size true e = held ∙ take_all form.longest (unit.bytes ++ packet.payload) (true_leb (length (unit.bytes ++ packet.payload)) form.longest e)
        by_size false e = absurd (by_span (form.span joined) refl (false_leb (length (unit.bytes ++ packet.payload)) form.longest e) untold)

    pub goes_open : IsUnderWay form unit.bytes → is_told (form.span joined) (length joined) ≡ false
        → GoesOn form unit packet (drained (record { moment = unit.moment; bytes = joined } ∷ []))
    goes_open good untold =
        let same : joined ≡ unit.bytes ++ packet.payload = held_whole good untold in
        let untold_all : is_told (form.span (unit.bytes ++ packet.payload)) (length (unit.bytes ++ packet.payload)) ≡ false =
        ap (λ (t : List ℕ). is_told (form.span t) (length t)) (sym same) ∙ untold in
        record {
          events = sym (untold_goes unit packet plain untold_all).0;
          under_way = ap (λ (t : List ℕ). record { moment = unit.moment; bytes = t } ∷ []) same ∙ sym (untold_goes unit packet plain untold_all).1;
        }

  -- The same, of the front of a buffer.
  module _ (unit : Open) (packet : PacketFields) (plain : packet.starts ≡ false) (buffer : List ℕ) (size : ℕ) (fits : size ≤ length buffer)
      (held : take size buffer ≡ take form.longest (unit.bytes ++ packet.payload)) where
    pub goes_whole_in : (n : ℕ) → whole n ≡ form.span (take size buffer) → n ≤ size → GoesOn form unit packet (giving unit.moment (candidate (take n buffer)) None)
    goes_whole_in n told within =
        subst (λ (t : List ℕ). GoesOn form unit packet (giving unit.moment (candidate t) None)) (take-take n size buffer within)
        (goes_whole unit packet plain (take size buffer) held n (sym told) (omega (arith, length-take-le size buffer fits)))

    pub goes_bad_in : bad ≡ form.span (take size buffer) → GoesOn form unit packet (giving 0 bad_length None)
    goes_bad_in told = goes_bad unit packet plain (take size buffer) held (sym told)

    pub goes_open_in : (s : Span) → s ≡ form.span (take size buffer) → is_told s size ≡ false → IsUnderWay form unit.bytes
        → GoesOn form unit packet (drained (record { moment = unit.moment; bytes = take size buffer } ∷ []))
    goes_open_in s told untold good =
        goes_open unit packet plain (take size buffer) held good
        (ap (λ (t : Span). is_told t (length (take size buffer))) (sym told) ∙ ap (is_told s) (length-take-le size buffer fits) ∙ untold)

-- what is put after a unit, as far as the longest unit goes
pub held_is : (old new piece payload : List ℕ) (size count longest told_longest : ℕ) → take count new ≡ take (length old) (take size old ++ piece)
    → length old ≡ told_longest → longest ≡ told_longest → payload ≡ piece → take count new ≡ take longest (take size old ++ payload)
held_is old new piece payload size count longest told_longest put room same payload_is =
    put ∙ ap (λ (t : ℕ). take t (take size old ++ piece)) (room ∙ sym same) ∙ ap (λ (t : List ℕ). take longest (take size old ++ t)) (sym payload_is)

-- a length that is known stays, whatever is put after the bytes
pub span_stays : (form : UnitForm) → IsLawful form → (old new piece : List ℕ) (size count n told_longest : ℕ) → take count new ≡ take (length old) (take size old ++ piece)
    → length old ≡ told_longest → form.longest ≡ told_longest → form.span (take size old) ≡ whole n → whole n ≡ form.span (take count new)
span_stays form lawful old new piece size count n told_longest put room same told =
    sym (ap form.span (held_is old new piece piece size count form.longest told_longest put room same refl) ∙ span-take form lawful (take size old ++ piece) ∙ by_told (lawful.told (take size old) piece))
  where
    by_told : (form.span (take size old) ≡ more) ⊎ (form.span (take size old ++ piece) ≡ form.span (take size old)) → form.span (take size old ++ piece) ≡ whole n
    by_told (inl e) = absurd (cc)
    by_told (inr e) = e ∙ told
