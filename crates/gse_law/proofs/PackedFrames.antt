-- The frames of packed PDUs give these PDUs.
use Rattle.std.proofs.Common.{◌≡◌, ℕ, zero, suc, ◌+◌, ◌-◌, ◌<◌, ◌≤◌, Bool, true, false, cond, ◌&&◌, Option, Some, None, List, [], ◌∷◌, ◌++◌, take, length, map, flat_map, refl, ap, ap₂, sym, ◌∙◌, subst, arith, length-append, length-take}
use Rattle.std.specs.Prelude.{◌==◌, not, ◌||◌, nat_le, filter}
use Rattle.std.specs.List.{list_all, list_any, sum_by}
use Rattle.std.proofs.lemmas.Bool.{and_parts, leb-true}
use Rattle.ip_datagram.specs.Destination.{destination_of}
use Rattle.addr_rules.specs.Bits.{is_match}
use Rattle.addr_rules.specs.declared.rules.Rule.{Rule}
use Rattle.std.proofs.lemmas.List.Sums.{sum_by-cons, sum_by-append}
use Rattle.std.proofs.lemmas.List.Folds.{flat_map-map}
use Rattle.gse_spec.specs.Carried.{holds_packets, CarriesPdus}
use Rattle.std.specs.Int.{w32, to_be_bytes}
use Rattle.std.proofs.lemmas.Slice.Eq.{bytes_eq-Decides}
use Rattle.wire_spec.specs.Crc.{crc32_remainder}
use Rattle.addr_rules.specs.declared.filter.Label.{Label}
use Rattle.addr_rules.specs.declared.filter.Label.TheVariants.{Six, Three, Broadcast}
use Rattle.gse_spec.specs.Frame.{FrameFields, frame_fields, frame_bytes}
use Rattle.gse_spec.specs.Packet.{GsePacket, complete_packet, start_packet, middle_packet, end_packet, Reading, packet, packets_in, is_gse_packet, packets_of, label_after_packet, readings_of}
use Rattle.gse_spec.specs.Written.{label_bytes, Writing, bytes_of_packet, field_of}
use Rattle.gse_spec.specs.Reassembly.{PlacedPacket, Pdu, PlacedPdu, pdu_of, pdus_after}
use Rattle.gse_spec.specs.Received.{is_frame_of, placed, ends_pdu, packets_from, received_pdus}
use Rattle.gse_spec.specs.Packing.{first_size, rest_after_first, middle_size, rest_after_middle, is_again, Rest, Turn, no_turn, begins, goes_on, Choice, in_front, covered_by, packed_turn, packed_within, ClassIds, InClasses, after_urgent, after_ordinary, next_in_classes, in_classes_after, in_classes, none_begun, steps_of, packed}
use Rattle.gse_spec.specs.Classes.{is_urgent_pdu, ids_for, placed_frames, Class, urgent_class, ordinary_class, pdus_of_class, ended_pdus}
use Rattle.gse_spec.specs.Sending.{frames_with, packets_for, frames_for}
use Rattle.gse_law.specs.Streams.{frames_of}
use Rattle.gse_law.specs.Classes.{EndsInClasses}
use Rattle.gse_law.specs.Writable.{IsWritable, AreWritable, IsFrameRead}
use Rattle.gse_law.specs.Packed.{last_one, last_packets, AreShortPdus, IsSendable, AreSendable, AllFramesFit, RestFits, packet_step, frame_step, ChoosesSendable}
use Rattle.crc_law.proofs.CheckSum.{crc32_below}
use Rattle.gse_law.proofs.Openers.{equals_itself}
use Rattle.gse_law.proofs.Written.{written_read}
use Rattle.gse_law.proofs.WrittenFrames.{frame_read}
use Rattle.gse_law.proofs.Isolation.{bare_from, bare_frames, pdus_of_placed, of_own_frames}
use Rattle.gse_law.proofs.Packing.{pick, pick_both, again, Given, classes_given, one_class_given}

-- Each frame can be written.

-- the first frame from here on: after a label, in so many bytes
abbrev FirstFits : Option Label → ℕ → List Writing → Type 0
FirstFits before left writings = AreWritable before writings × (length (field_of writings) ≤ left)

abbrev FramesFit : ℕ → Option Label → ℕ → List (List Writing) → Type 0
FramesFit room before left [] = Unit {0}
FramesFit room before left (frame ∷ frames) = FirstFits before left frame × AllFramesFit room frames

front_fits : (room : ℕ) (before : Option Label) (left size : ℕ) (w : Writing) (frames : List (List Writing)) → IsWritable before w.reuses w.packet
    → length (bytes_of_packet w.reuses w.packet) ≤ size → size ≤ left → FramesFit room (label_after_packet before w.packet) (left - size) frames → FramesFit room before left (in_front w frames)
front_fits room before left size w [] writable long within fit = (((writable, tt), omega (arith, long, within, length-append (bytes_of_packet w.reuses w.packet) [])), tt)
front_fits room before left size w (frame ∷ frames) writable long within fit =
    (((writable, fit.0.0), omega (arith, long, within, fit.0.1, length-append (bytes_of_packet w.reuses w.packet) (field_of frame))), fit.1)

frame_over : (room : ℕ) (before : Option Label) (left : ℕ) (frames : List (List Writing)) → FramesFit room None room frames → FramesFit room before left ([] ∷ frames)
frame_over room before left [] fit = ((tt, omega arith), tt)
frame_over room before left (frame ∷ frames) fit = ((tt, omega arith), fit)

-- a label that is had again is the one before
again_is : (before : Option Label) (label : Label) → is_again before label ≡ true → before ≡ Some label
again_is (Some (Six a)) (Six b) e = ap (λ (t : List ℕ). Some (Six t)) ((bytes_eq-Decides a b).0 e)
again_is (Some (Six a)) (Three b) e = absurd (cc)
again_is (Some (Six a)) Broadcast e = absurd (cc)
again_is (Some (Three a)) label e = absurd (cc)
again_is (Some Broadcast) label e = absurd (cc)
again_is None label e = absurd (cc)

complete_writable : (before : Option Label) (pdu : Pdu) (r : Bool) → is_again before pdu.label ≡ r → IsSendable pdu → 2 + length (cond r [] (label_bytes pdu.label)) + length pdu.bytes ≤ 4095
    → IsWritable before r (complete_packet pdu.protocol pdu.label pdu.bytes)
complete_writable before pdu true is able fit = (able.1, again_is before pdu.label is, omega (arith, fit))
complete_writable before pdu false is able fit = (able.1, able.2, fit)

complete_size : (pdu : Pdu) (r : Bool) → length (bytes_of_packet r (complete_packet pdu.protocol pdu.label pdu.bytes)) ≤ 4 + length (cond r [] (label_bytes pdu.label)) + length pdu.bytes
complete_size pdu true = omega arith
complete_size pdu false = omega (arith, length-append (label_bytes pdu.label) pdu.bytes)

-- a choice that keeps to such states, begins PDUs that can be sent there, and goes on with rests that have a CRC-32
pub record KeepsSendable {State : Type 0} (choice : Choice State) (Good : State → Type 0) : Type 0 where
  pub begun : (s : State) (id : ℕ) (pdu : Pdu) → Good s → choice.next s ≡ begins id pdu → IsSendable pdu
  pub gone_on : (s : State) (rest : Rest) → Good s → choice.next s ≡ goes_on rest → RestFits (Some rest)
  pub after_packet : (s : State) (left : Option Rest) → Good s → RestFits left → Good (choice.after_packet s left)
  pub after_frame : (s : State) → Good s → Good (choice.after_frame s)

module _ {State : Type 0} (choice : Choice State) (Good : State → Type 0) (chooses : KeepsSendable choice Good) (room : ℕ) where
  abbrev sum : List ℕ → ℕ
  sum bytes = crc32_remainder 0xFFFF_FFFF bytes

  abbrev Later : Type 0
  Later = ℕ → Option Label → State → List (List Writing)

  -- from any state that is good
  abbrev LaterFits : Later → Type 0
  LaterFits later = (left : ℕ) (before : Option Label) (s : State) → left ≤ room → Good s → FramesFit room before left (later left before s)

  pdu_fits : (later : Later) → LaterFits later → (left : ℕ) (before : Option Label) (s : State) (id : ℕ) (pdu : Pdu) → left ≤ room → Good s → IsSendable pdu
      → FramesFit room before left (packed_turn choice sum room left before s (begins id pdu) later)
  pdu_fits later fits left before s id pdu small good able =
      pick_both (FramesFit room before left) (2 + length (again before pdu.label) + length pdu.bytes) 4095 (4 + length (again before pdu.label) + length pdu.bytes) left _ _
      (λ a b. front_fits room before left (4 + length (again before pdu.label) + length pdu.bytes) (record { packet = complete_packet pdu.protocol pdu.label pdu.bytes; reuses = is_again before pdu.label })
      (later (left - (4 + length (again before pdu.label) + length pdu.bytes)) (Some pdu.label) (choice.after_packet s None))
      (complete_writable before pdu (is_again before pdu.label) refl able a) (complete_size pdu (is_again before pdu.label)) b
      (fits (left - (4 + length (again before pdu.label) + length pdu.bytes)) (Some pdu.label) (choice.after_packet s None) (omega (arith, small)) (chooses.after_packet s None good tt)))
      (λ long. pick (FramesFit room before left) (8 + length (label_bytes pdu.label)) left _ _
      (λ a. front_fits room before left (7 + length (label_bytes pdu.label) + first_size left pdu)
      (record { packet = start_packet id (2 + length (label_bytes pdu.label) + length pdu.bytes) pdu.protocol pdu.label (length (label_bytes pdu.label)) (take (first_size left pdu) pdu.bytes); reuses = false })
      (later (left - (7 + length (label_bytes pdu.label) + first_size left pdu)) (Some pdu.label) (choice.after_packet s (Some (rest_after_first sum left id pdu))))
      (omega (arith, able.0.0, able.0.1), able.1, able.2, refl, omega (arith, able.0.0, length-take (first_size left pdu) pdu.bytes))
      (omega (arith, length-append (label_bytes pdu.label) (take (first_size left pdu) pdu.bytes), length-take (first_size left pdu) pdu.bytes))
      (omega (arith, a))
      (fits (left - (7 + length (label_bytes pdu.label) + first_size left pdu)) (Some pdu.label) (choice.after_packet s (Some (rest_after_first sum left id pdu))) (omega (arith, small))
      (chooses.after_packet s (Some (rest_after_first sum left id pdu)) good (crc32_below 0xFFFF_FFFF (covered_by pdu)))))
      (λ few. frame_over room before left (later room None (choice.after_frame s)) (fits room None (choice.after_frame s) (omega arith) (chooses.after_frame s good))))

  rest_fits : (later : Later) → LaterFits later → (left : ℕ) (before : Option Label) (s : State) (rest : Rest) → left ≤ room → Good s → RestFits (Some rest)
      → FramesFit room before left (packed_turn choice sum room left before s (goes_on rest) later)
  rest_fits later fits left before s rest small good fit =
      pick_both (FramesFit room before left) (5 + length rest.bytes) 4095 (7 + length rest.bytes) left _ _
      (λ a b. front_fits room before left (7 + length rest.bytes) (record { packet = end_packet rest.id rest.bytes rest.crc; reuses = false })
      (later (left - (7 + length rest.bytes)) before (choice.after_packet s None)) (fit, a) (omega (arith, length-append rest.bytes (to_be_bytes w32 rest.crc))) b
      (fits (left - (7 + length rest.bytes)) before (choice.after_packet s None) (omega (arith, small)) (chooses.after_packet s None good tt)))
      (λ long. pick_both (FramesFit room before left) 4 left 2 (length rest.bytes) _ _
      (λ c d. front_fits room before left (3 + middle_size left (length rest.bytes)) (record { packet = middle_packet rest.id (take (middle_size left (length rest.bytes)) rest.bytes); reuses = false })
      (later (left - (3 + middle_size left (length rest.bytes))) before (choice.after_packet s (Some (rest_after_middle left rest))))
      (omega (arith, length-take (middle_size left (length rest.bytes)) rest.bytes)) (omega (arith, length-take (middle_size left (length rest.bytes)) rest.bytes)) (omega (arith, c))
      (fits (left - (3 + middle_size left (length rest.bytes))) before (choice.after_packet s (Some (rest_after_middle left rest))) (omega (arith, small)) (chooses.after_packet s (Some (rest_after_middle left rest)) good fit)))
      (λ short. frame_over room before left (later room None (choice.after_frame s)) (fits room None (choice.after_frame s) (omega arith) (chooses.after_frame s good))))

  turn_fits : (later : Later) → LaterFits later → (left : ℕ) (before : Option Label) (s : State) → left ≤ room → Good s → (turn : Turn) → choice.next s ≡ turn
      → FramesFit room before left (packed_turn choice sum room left before s turn later)
  turn_fits later fits left before s small good no_turn is = ((tt, omega arith), tt)
  turn_fits later fits left before s small good (begins id pdu) is = pdu_fits later fits left before s id pdu small good (chooses.begun s id pdu good is)
  turn_fits later fits left before s small good (goes_on rest) is = rest_fits later fits left before s rest small good (chooses.gone_on s rest good is)

  within_fits : (most : ℕ) → LaterFits (packed_within choice sum room most)
  within_fits zero left before s small good = ((tt, omega arith), tt)
  within_fits (suc most) left before s small good = turn_fits (packed_within choice sum room most) (within_fits most) left before s small good (choice.next s) refl

  first_fits : (frames : List (List Writing)) → FramesFit room None room frames → AllFramesFit room frames
  first_fits [] fit = tt
  first_fits (frame ∷ frames) fit = fit

  -- whatever the choice
  chosen_fit : (most : ℕ) (s : State) → Good s → AllFramesFit room (packed_within choice sum room most room None s)
  chosen_fit most s good = first_fits (packed_within choice sum room most room None s) (within_fits most room None s (omega arith) good)

module _ {State : Type 0} (choice : Choice State) where
  chooses_keeps : KeepsSendable choice (ChoosesSendable choice)
  chooses_keeps = record {
    begun = λ s id pdu chooses is. chooses.begun [] tt id pdu is;
    gone_on = λ s rest chooses is. chooses.gone_on [] tt rest is;
    after_packet = λ s left chooses fit. record {
      begun = λ steps fits. chooses.begun (packet_step left ∷ steps) (fit, fits);
      gone_on = λ steps fits. chooses.gone_on (packet_step left ∷ steps) (fit, fits);
    };
    after_frame = λ s chooses. record {
      begun = λ steps fits. chooses.begun (frame_step ∷ steps) fits;
      gone_on = λ steps fits. chooses.gone_on (frame_step ∷ steps) fits;
    };
  }

  pub chosen_can_be_written : (s : State) → ChoosesSendable choice s → (room most : ℕ) → AllFramesFit room (packed_within choice (λ bytes. crc32_remainder 0xFFFF_FFFF bytes) room most room None s)
  chosen_can_be_written s chooses room most = chosen_fit choice (ChoosesSendable choice) chooses_keeps room most s chooses

-- A list of PDUs in classes.

abbrev CanBeSent : InClasses → Type 0
CanBeSent s = AreSendable s.pdus × RestFits s.urgent_rest × RestFits s.rest

abbrev pdu_or : Pdu → Turn → Pdu
pdu_or default no_turn = default
pdu_or default (begins id pdu) = pdu
pdu_or default (goes_on rest) = default

abbrev rest_or : Rest → Turn → Rest
rest_or default no_turn = default
rest_or default (begins id pdu) = default
rest_or default (goes_on rest) = rest

module _ (urgent : Pdu → Bool) (ids : ClassIds) where
  classes_begun : (id urgent_id : ℕ) (u o : Option Rest) (yields : ℕ) (pdus : List Pdu) → AreSendable pdus → (i : ℕ) (pdu : Pdu)
      → next_in_classes urgent id urgent_id u o yields pdus ≡ begins i pdu → IsSendable pdu
  classes_begun id urgent_id (Some rest) o yields pdus able i pdu is = absurd (cc)
  classes_begun id urgent_id None None yields [] able i pdu is = absurd (cc)
  classes_begun id urgent_id None None yields (p ∷ pdus) able i pdu is = subst IsSendable (ap (pdu_or p) is) able.0
  classes_begun id urgent_id None (Some rest) yields [] able i pdu is = absurd (cc)
  classes_begun id urgent_id None (Some rest) zero (p ∷ pdus) able i pdu is = absurd (cc)
  classes_begun id urgent_id None (Some rest) (suc yields) (p ∷ pdus) able i pdu is = by_class (urgent p) is
    where
      by_class : (b : Bool) → cond b (begins urgent_id p) (goes_on rest) ≡ begins i pdu → IsSendable pdu
      by_class true e = subst IsSendable (ap (pdu_or p) e) able.0
      by_class false e = absurd (cc)

  classes_gone_on : (id urgent_id : ℕ) (u o : Option Rest) (yields : ℕ) (pdus : List Pdu) → RestFits u → RestFits o → (r : Rest)
      → next_in_classes urgent id urgent_id u o yields pdus ≡ goes_on r → RestFits (Some r)
  classes_gone_on id urgent_id (Some rest) o yields pdus fit other r is = subst (λ (t : Rest). RestFits (Some t)) (ap (rest_or rest) is) fit
  classes_gone_on id urgent_id None None yields [] fit other r is = absurd (cc)
  classes_gone_on id urgent_id None None yields (p ∷ pdus) fit other r is = absurd (cc)
  classes_gone_on id urgent_id None (Some rest) yields [] fit other r is = subst (λ (t : Rest). RestFits (Some t)) (ap (rest_or rest) is) other
  classes_gone_on id urgent_id None (Some rest) zero (p ∷ pdus) fit other r is = subst (λ (t : Rest). RestFits (Some t)) (ap (rest_or rest) is) other
  classes_gone_on id urgent_id None (Some rest) (suc yields) (p ∷ pdus) fit other r is = by_class (urgent p) is
    where
      by_class : (b : Bool) → cond b (begins urgent_id p) (goes_on rest) ≡ goes_on r → RestFits (Some r)
      by_class true e = absurd (cc)
      by_class false e = subst (λ (t : Rest). RestFits (Some t)) (ap (rest_or rest) e) other

  urgent_keeps : (id urgent_id : ℕ) (o : Option Rest) (yields : ℕ) (pdus : List Pdu) (left : Option Rest) → AreSendable pdus → RestFits o → RestFits left
      → CanBeSent (after_urgent ids id urgent_id o yields pdus left)
  urgent_keeps id urgent_id o yields pdus None able other fit = (able, tt, other)
  urgent_keeps id urgent_id o yields pdus (Some rest) able other fit = (able, fit, other)

  ordinary_keeps : (id urgent_id yields : ℕ) (pdus : List Pdu) (left : Option Rest) → AreSendable pdus → RestFits left → CanBeSent (after_ordinary ids id urgent_id yields pdus left)
  ordinary_keeps id urgent_id yields pdus None able fit = (able, tt, tt)
  ordinary_keeps id urgent_id yields pdus (Some rest) able fit = (able, tt, fit)

  either_keeps : (b : Bool) (x y : InClasses) → CanBeSent x → CanBeSent y → CanBeSent (cond b x y)
  either_keeps true x y x_can y_can = x_can
  either_keeps false x y x_can y_can = y_can

  classes_keep : (id urgent_id : ℕ) (u o : Option Rest) (yields : ℕ) (pdus : List Pdu) (left : Option Rest) → AreSendable pdus → RestFits o → RestFits left
      → CanBeSent (in_classes_after urgent ids id urgent_id u o yields pdus left)
  classes_keep id urgent_id (Some rest) o yields pdus left able other fit = (able, fit, other)
  classes_keep id urgent_id None None yields [] left able other fit = (tt, tt, tt)
  classes_keep id urgent_id None None yields (pdu ∷ pdus) left able other fit =
      either_keeps (urgent pdu) (after_urgent ids id urgent_id None yields pdus left) (after_ordinary ids id urgent_id yields pdus left)
      (urgent_keeps id urgent_id None yields pdus left able.1 tt fit) (ordinary_keeps id urgent_id yields pdus left able.1 fit)
  classes_keep id urgent_id None (Some rest) yields [] left able other fit = (tt, tt, fit)
  classes_keep id urgent_id None (Some rest) zero (pdu ∷ pdus) left able other fit = (able, tt, fit)
  classes_keep id urgent_id None (Some rest) (suc yields) (pdu ∷ pdus) left able other fit =
      either_keeps (urgent pdu) (after_urgent ids id urgent_id (Some rest) (suc yields) pdus left)
      (record { id = id; urgent_id = urgent_id; urgent_rest = None; rest = left; yields = suc yields; pdus = pdu ∷ pdus })
      (urgent_keeps id urgent_id (Some rest) (suc yields) pdus left able.1 other fit) (able, tt, fit)

  classes_choose : KeepsSendable (in_classes urgent ids) CanBeSent
  classes_choose = record {
    begun = λ s id pdu good is. classes_begun s.id s.urgent_id s.urgent_rest s.rest s.yields s.pdus good.0 id pdu is;
    gone_on = λ s rest good is. classes_gone_on s.id s.urgent_id s.urgent_rest s.rest s.yields s.pdus good.1 good.2 rest is;
    after_packet = λ s left good fit. classes_keep s.id s.urgent_id s.urgent_rest s.rest s.yields s.pdus left good.0 good.2 fit;
    after_frame = λ s good. good;
  }

  pub packed_fits : (room : ℕ) (pdus : List Pdu) → AreSendable pdus → AllFramesFit room (packed urgent ids (λ bytes. crc32_remainder 0xFFFF_FFFF bytes) room pdus)
  packed_fits room [] able = tt
  packed_fits room (pdu ∷ pdus) able =
      chosen_fit (in_classes urgent ids) CanBeSent classes_choose room (steps_of (pdu ∷ pdus)) (none_begun ids (pdu ∷ pdus)) (able, tt, tt)

-- Each frame is read.

read_back : (writings : List Writing) → flat_map packets_in (map (λ (w : Writing). packet w.packet) writings) ≡ map (λ (w : Writing). w.packet) writings
read_back [] = refl
read_back (w ∷ writings) = ap (λ (t : List GsePacket). w.packet ∷ t) (read_back writings)

frames_read : (isi size room h : ℕ) (frames : List (List Writing)) → size ≡ room + 10 → room ≤ 7264 → AllFramesFit room frames
    → bare_from h (frames_of isi (frames_with isi size frames)) ≡ bare_frames (h + 1) 0 frames
frames_read isi size room h [] size_is small fit = refl
frames_read isi size room h (frame ∷ frames) size_is small fit =
    one_more (frame_read isi (field_of frame) size (omega (arith, fit.0.1, small)) (omega (arith, fit.0.1, size_is))) (written_read frame fit.0.0) (frames_read isi size room (h + 1) frames size_is small fit.1)
  where
    one_more : IsFrameRead isi (field_of frame) size → readings_of (field_of frame) ≡ map (λ (w : Writing). packet w.packet) frame
        → bare_from (h + 1) (frames_of isi (frames_with isi size frames)) ≡ bare_frames (h + 1 + 1) 0 frames
        → bare_from h (frames_of isi (frame_bytes isi (field_of frame) size ∷ frames_with isi size frames))
        ≡ placed 0 (h + 1) 0 (map (λ (w : Writing). w.packet) frame) ++ bare_frames (h + 1 + 1) 0 frames
    one_more read readings rest =
        ap (λ (b : Bool). bare_from h (cond b
        (frame_bytes isi (field_of frame) size ∷ frames_of isi (frames_with isi size frames))
        (frames_of isi (frames_with isi size frames))))
        (ap₂ (λ (x : Bool) (t : FrameFields). x && (t.isi == isi)) read.readable read.fields ∙ equals_itself isi)
        ∙ ap₂ (λ (x y : List PlacedPacket). x ++ y)
        (ap (λ (t : FrameFields). placed 0 (h + 1) 0 (packets_of t.field)) read.fields ∙ ap (λ (t : List Reading). placed 0 (h + 1) 0 (flat_map packets_in t)) readings
        ∙ ap (placed 0 (h + 1) 0) (read_back frame))
        rest

-- of any frames that can be written: the received packets are those that were written
pub frames_are_read : (isi size : ℕ) (frames : List (List Writing)) → 10 ≤ size → size ≤ 7274 → AllFramesFit (size - 10) frames
    → map pdu_of (received_pdus isi (frames_with isi size frames)) ≡ map pdu_of (pdus_after [] (placed_frames 0 1 0 frames))
frames_are_read isi size frames least most fit =
    of_own_frames isi (frames_with isi size frames)
    ∙ ap (λ (t : List PlacedPacket). map pdu_of (pdus_after [] t)) (frames_read isi size (size - 10) 0 frames (omega (arith, least)) (omega (arith, most)) fit)
    ∙ sym (pdus_of_placed frames)

pub sendable_fit : (pdus : List Pdu) → AreSendable pdus → AreShortPdus pdus
sendable_fit [] able = tt
sendable_fit (pdu ∷ pdus) able = (able.0.0, sendable_fit pdus able.1)

-- The classes of a service.

abbrev Below128 : ℕ → Type 0
Below128 a = a < 128

abbrev From128 : ℕ → Type 0
From128 a = 128 ≤ a

short_urgent : (rules : List Rule) (pdu : Pdu) → is_urgent_pdu rules pdu ≡ true → length pdu.bytes ≤ 1500
short_urgent rules pdu is =
    leb-true (length pdu.bytes) 1500 (and_parts (list_any (λ rule. is_match rule (destination_of pdu.bytes)) rules) (nat_le (length pdu.bytes) 1500) is).1

apart : (a b : ℕ) → a < 128 → 128 ≤ b → (b == a) ≡ false
apart a b below from = grind (arith, below, from)

-- a receiver of the packets has the urgent PDUs and the ordinary ones, each in order, and as many as packets end one
abbrev ClassesGiven : List Rule → ℕ → List Pdu → Type 0
ClassesGiven rules room pdus =
    Given (is_urgent_pdu rules) (packed (is_urgent_pdu rules) (ids_for rules) (crc32_remainder 0xFFFF_FFFF) room pdus) [] 1 0
    (filter (is_urgent_pdu rules) pdus) (filter (λ (pdu : Pdu). not (is_urgent_pdu rules pdu)) pdus)

rules_given : (rules : List Rule) (room : ℕ) → 290 ≤ room → (pdus : List Pdu) → AreShortPdus pdus → ClassesGiven rules room pdus
rules_given [] room enough pdus all = one_class_given (ids_for []) room enough pdus all
rules_given (rule ∷ rules) room enough pdus all =
    classes_given (is_urgent_pdu (rule ∷ rules)) (short_urgent (rule ∷ rules)) (ids_for (rule ∷ rules)) room enough Below128 From128
    (λ a below. omega arith) (λ a from. omega arith) (λ pdu is a b below from. apart a b below from) (omega arith) (omega arith) pdus all

by_class : (rules : List Rule) (xs ys : List Pdu) → filter (is_urgent_pdu rules) xs ≡ filter (is_urgent_pdu rules) ys
    → filter (λ (pdu : Pdu). not (is_urgent_pdu rules pdu)) xs ≡ filter (λ (pdu : Pdu). not (is_urgent_pdu rules pdu)) ys
    → (class : Class) → pdus_of_class rules class xs ≡ pdus_of_class rules class ys
by_class rules xs ys urgent_are ordinary_are urgent_class = urgent_are
by_class rules xs ys urgent_are ordinary_are ordinary_class = ordinary_are

pub ends_in_classes : (rules : List Rule) (size : ℕ) (pdus : List Pdu) → 300 ≤ size → AreShortPdus pdus → EndsInClasses rules (packets_for rules size pdus) pdus
ends_in_classes rules size pdus least all =
    let frames : List (List Writing) = packets_for rules size pdus in
    let given : ClassesGiven rules (size - 10) pdus = rules_given rules (size - 10) (omega (arith, least)) pdus all in
    let bare : ended_pdus frames ≡ map pdu_of (pdus_after [] (bare_frames 1 0 frames)) = pdus_of_placed frames in
    record {
      classes = by_class rules (ended_pdus frames) pdus
          (ap (filter (is_urgent_pdu rules)) bare ∙ given.0)
          (ap (filter (λ (pdu : Pdu). not (is_urgent_pdu rules pdu))) bare ∙ given.1);
      counted = ap length bare ∙ sym given.2;
    }

all_pass : (pdus : List Pdu) → filter (λ (pdu : Pdu). not false) pdus ≡ pdus
all_pass [] = refl
all_pass (pdu ∷ pdus) = ap (λ (t : List Pdu). pdu ∷ t) (all_pass pdus)

-- where no PDU is urgent all end in order, whatever Frag IDs they have
pub one_class_in_order : (ids : ClassIds) (room : ℕ) → 290 ≤ room → (pdus : List Pdu) → AreShortPdus pdus
    → ended_pdus (packed (λ pdu. false) ids (crc32_remainder 0xFFFF_FFFF) room pdus) ≡ pdus
one_class_in_order ids room enough pdus all =
    let frames : List (List Writing) = packed (λ pdu. false) ids (crc32_remainder 0xFFFF_FFFF) room pdus in
    sym (all_pass (ended_pdus frames)) ∙ ap (filter (λ (pdu : Pdu). not false)) (pdus_of_placed frames) ∙ (one_class_given ids room enough pdus all).1 ∙ all_pass pdus

pub ends_in_order : (size : ℕ) (pdus : List Pdu) → 300 ≤ size → AreShortPdus pdus → ended_pdus (packets_for [] size pdus) ≡ pdus
ends_in_order size pdus least all = one_class_in_order (ids_for []) (size - 10) (omega (arith, least)) pdus all

pub frames_give : (rules : List Rule) (isi size : ℕ) (pdus : List Pdu) → 300 ≤ size → size ≤ 7274 → AreSendable pdus
    → map pdu_of (received_pdus isi (frames_for rules isi size pdus)) ≡ ended_pdus (packets_for rules size pdus)
frames_give rules isi size pdus least most able =
    frames_are_read isi size (packets_for rules size pdus) (omega (arith, least)) most (packed_fits (is_urgent_pdu rules) (ids_for rules) (size - 10) pdus able)

-- The frames carry what the PDUs carry.

-- all readings of a written field are packets
pub all_packets : (writings : List Writing) → list_all is_gse_packet (map (λ (w : Writing). packet w.packet) writings) ≡ true
all_packets [] = refl
all_packets (w ∷ writings) = all_packets writings

holds_all : (isi size room : ℕ) (frames : List (List Writing)) → size ≡ room + 10 → room ≤ 7264 → AllFramesFit room frames
    → list_all (holds_packets isi) (frames_with isi size frames) ≡ true
holds_all isi size room [] size_is small fit = refl
holds_all isi size room (frame ∷ frames) size_is small fit =
    ap₂ (λ (x y : Bool). x && y)
    (one_holds (frame_read isi (field_of frame) size (omega (arith, fit.0.1, small)) (omega (arith, fit.0.1, size_is))) (is_frame_of isi (frame_bytes isi (field_of frame) size)))
    (holds_all isi size room frames size_is small fit.1)
  where
    one_holds : IsFrameRead isi (field_of frame) size → (b : Bool) → (not b || list_all is_gse_packet (readings_of (frame_fields (frame_bytes isi (field_of frame) size)).field)) ≡ true
    one_holds read false = refl
    one_holds read true =
        ap (λ (t : FrameFields). list_all is_gse_packet (readings_of t.field)) read.fields ∙ ap (list_all is_gse_packet) (written_read frame fit.0.0) ∙ all_packets frame

-- the packets that end a PDU are as many as the PDUs
abbrev weight : PlacedPacket → ℕ
weight p = cond (ends_pdu p.packet) 1 0

count_placed : (place frame_number index : ℕ) (packets : List GsePacket) → sum_by weight (placed place frame_number index packets) ≡ length (flat_map last_one packets)
count_placed place frame_number index [] = refl
count_placed place frame_number index (p ∷ packets) =
    sum_by-cons weight (record { place = place; frame_number = frame_number; index = index; packet = p }) (placed place frame_number (index + 1) packets)
    ∙ ap (λ (n : ℕ). cond (ends_pdu p) 1 0 + n) (count_placed place frame_number (index + 1) packets)
    ∙ one_more (ends_pdu p)
  where
    one_more : (b : Bool) → cond b 1 0 + length (flat_map last_one packets) ≡ length (cond b (p ∷ []) [] ++ flat_map last_one packets)
    one_more true = omega arith
    one_more false = omega arith

flat_last : (writings : List Writing) → flat_map last_one (map (λ (w : Writing). w.packet) writings) ≡ flat_map (λ (w : Writing). last_one w.packet) writings
flat_last [] = refl
flat_last (w ∷ writings) = ap (λ (t : List GsePacket). last_one w.packet ++ t) (flat_last writings)

count_frames : (isi size room place frame_number : ℕ) (frames : List (List Writing)) → size ≡ room + 10 → room ≤ 7264 → AllFramesFit room frames
    → sum_by weight (packets_from isi place frame_number (frames_with isi size frames)) ≡ length (last_packets frames)
count_frames isi size room place frame_number [] size_is small fit = refl
count_frames isi size room place frame_number (frame ∷ frames) size_is small fit =
    one_more (frame_read isi (field_of frame) size (omega (arith, fit.0.1, small)) (omega (arith, fit.0.1, size_is))) (written_read frame fit.0.0)
    (count_frames isi size room (place + 1) (frame_number + 1) frames size_is small fit.1)
  where
    one_more : IsFrameRead isi (field_of frame) size → readings_of (field_of frame) ≡ map (λ (w : Writing). packet w.packet) frame
        → sum_by weight (packets_from isi (place + 1) (frame_number + 1) (frames_with isi size frames)) ≡ length (last_packets frames)
        → sum_by weight (packets_from isi place frame_number (frame_bytes isi (field_of frame) size ∷ frames_with isi size frames))
        ≡ length (flat_map (λ (w : Writing). last_one w.packet) frame ++ last_packets frames)
    one_more read readings rest =
        ap (λ (b : Bool). sum_by weight (cond b
        (placed place (frame_number + 1) 0 (packets_of (frame_fields (frame_bytes isi (field_of frame) size)).field)
        ++ packets_from isi (place + 1) (frame_number + 1) (frames_with isi size frames))
        (packets_from isi (place + 1) frame_number (frames_with isi size frames))))
        (ap₂ (λ (x : Bool) (t : FrameFields). x && (t.isi == isi)) read.readable read.fields ∙ equals_itself isi)
        ∙ sum_by-append weight (placed place (frame_number + 1) 0 (packets_of (frame_fields (frame_bytes isi (field_of frame) size)).field))
        (packets_from isi (place + 1) (frame_number + 1) (frames_with isi size frames))
        ∙ ap₂ (λ (x y : ℕ). x + y)
        (ap (λ (t : FrameFields). sum_by weight (placed place (frame_number + 1) 0 (packets_of t.field))) read.fields
        ∙ ap (λ (t : List Reading). sum_by weight (placed place (frame_number + 1) 0 (flat_map packets_in t))) readings
        ∙ ap (λ (t : List GsePacket). sum_by weight (placed place (frame_number + 1) 0 t)) (read_back frame)
        ∙ count_placed place (frame_number + 1) 0 (map (λ (w : Writing). w.packet) frame)
        ∙ ap length (flat_last frame))
        rest
        ∙ sym (length-append (flat_map (λ (w : Writing). last_one w.packet) frame) (last_packets frames))

pub length-map_in : (xs : List PlacedPdu) → length (map pdu_of xs) ≡ length xs
length-map_in [] = refl
length-map_in (x ∷ xs) = ap suc (length-map_in xs)

-- frames that can be written carry what their PDUs carry, where these are as many as the packets that end one
pub written_carry : (carried : Pdu → List (List ℕ)) (isi size : ℕ) (frames : List (List Writing)) → 10 ≤ size → size ≤ 7274 → AllFramesFit (size - 10) frames
    → length (pdus_after [] (placed_frames 0 1 0 frames)) ≡ length (last_packets frames)
    → CarriesPdus carried isi (frames_with isi size frames) (flat_map carried (map pdu_of (pdus_after [] (placed_frames 0 1 0 frames))))
written_carry carried isi size frames least most fit many = record {
  packets = holds_all isi size (size - 10) frames (omega (arith, least)) (omega (arith, most)) fit;
  each =
      sym (length-map_in (received_pdus isi (frames_with isi size frames)))
      ∙ ap length (frames_are_read isi size frames least most fit)
      ∙ length-map_in (pdus_after [] (placed_frames 0 1 0 frames))
      ∙ many
      ∙ sym (count_frames isi size (size - 10) 0 0 frames (omega (arith, least)) (omega (arith, most)) fit);
  carried_are =
      ap (flat_map carried) (sym (frames_are_read isi size frames least most fit))
      ∙ flat_map-map carried pdu_of (received_pdus isi (frames_with isi size frames));
}

-- the frames carry the datagrams of the PDUs that they end
pub frames_carry : (carried : Pdu → List (List ℕ)) (rules : List Rule) (isi size : ℕ) (pdus : List Pdu) → 300 ≤ size → size ≤ 7274 → AreSendable pdus
    → CarriesPdus carried isi (frames_for rules isi size pdus) (flat_map carried (ended_pdus (packets_for rules size pdus)))
frames_carry carried rules isi size pdus least most able =
    let frames : List (List Writing) = packets_for rules size pdus in
    written_carry carried isi size frames (omega (arith, least)) most (packed_fits (is_urgent_pdu rules) (ids_for rules) (size - 10) pdus able)
    (sym (length-map_in (pdus_after [] (placed_frames 0 1 0 frames)))
    ∙ (ends_in_classes rules size pdus least (sendable_fit pdus able)).counted)
