-- The datagrams of received frames are datagrams of the sent ones.
use Rattle.std.proofs.Common.{◌≡◌, inl, inr, ℕ, zero, suc, ◌+◌, ◌-◌, ◌*◌, ◌<◌, ◌≤◌, Bool, true, false, ◌&&◌, cond, leb, ltb, List, [], ◌∷◌, ◌++◌, length, get_or, map, filter, Option, Some, None, refl, ap, ap₂, sym, ◌∙◌, subst, arith, le-leb, lt-ltb}
use Rattle.std.specs.Prelude.{is_none}
use Rattle.std.specs.List.{range_with_len}
use Rattle.std.proofs.lemmas.Bool.{and_from}
use Rattle.wire_spec.specs.Lists.{IsSubsequence}
use Rattle.section_spec.specs.Mpe.{MpeFields}
use Rattle.channel_spec.specs.Carried.{IsRising}
use Rattle.channel_law.proofs.Member.{Member, contains_member}
use Rattle.fec_frame_spec.specs.Sections.{FrameSection, data_section, parity_section, TimedSection, sections_of, data_of, data_end}
use Rattle.fec_frame_spec.specs.Known.{is_in, told_byte, first_told, known_byte}
use Rattle.fec_frame_spec.specs.Corrected.{unknown_columns, corrected_byte, IsRecoverable}
use Rattle.fec_frame_spec.specs.Delivered.{frame_datagrams, datagrams_of_frames}
use Rattle.fec_frame_spec.specs.Frame.{FrameFields, data_table, table_of, IsFrame, datagram_start, datagram_at, IsSectionOfDatagram, IsSectionOfFrame, AreSectionsFrom, IsSentFrame, AreSentFrames}
use Rattle.fec_frame_law.specs.Kept.{AreKept, accepted_frames}
use Rattle.fec_frame_law.specs.Recovered.{own_datagrams, AreRecovered, all_datagrams}
use Rattle.fec_frame_law.proofs.Places.{datagram_long, start_zero, start_all, start_below, table_data}
use Rattle.fec_frame_law.proofs.Known.{kept_section, known_sent, known_told}
use Rattle.fec_frame_law.proofs.Corrected.{corrected_agrees, corrected_whole, stays_known}
use Rattle.fec_frame_law.proofs.Within.{data_member}
use Rattle.fec_frame_law.proofs.Walk.{found_subsequence, found_own, found_all}

-- a frame that has a datagram has rows
pub rows_some : (rows : ℕ) (frame : FrameFields) → IsFrame rows frame → 0 < rows
rows_some rows frame is =
    omega (
      arith,
      is.fits,
      start_zero frame.datagrams,
      start_all frame.datagrams,
      start_below frame.datagrams (λ i within. datagram_long (get_or frame.datagrams i []) (is.datagrams_are i [] within)) 0 (length frame.datagrams) is.some (omega arith),
    )

-- More sections leave fewer bytes unknown.

told_some : (o other : Option ℕ) → is_none o ≡ false → is_none (first_told o other) ≡ false
told_some None other some = absurd (cc)
told_some (Some x) other some = refl

told_other : (o other : Option ℕ) → is_none other ≡ false → is_none (first_told o other) ≡ false
told_other None other some = some
told_other (Some x) other some = refl

known_by : (rows : ℕ) (group : List FrameSection) (s : FrameSection) (place : ℕ) → Member group s → is_none (told_byte rows s place) ≡ false
    → is_none (known_byte rows group place) ≡ false
known_by rows [] s place there told = absurd there
known_by rows (t ∷ group) s place (inl same) told =
    told_other (known_byte rows group place) (told_byte rows t place) (ap (λ (u : FrameSection). is_none (told_byte rows u place)) same ∙ told)
known_by rows (t ∷ group) s place (inr there) told =
    told_some (known_byte rows group place) (told_byte rows t place) (known_by rows group s place there told)

fewer_kept : (test other : ℕ → Bool) → ((j : ℕ) → test j ≡ true → other j ≡ true) → (xs : List ℕ) → length (filter test xs) ≤ length (filter other xs)
fewer_kept test other implies [] = omega arith
fewer_kept test other implies (x ∷ xs) = by_tests (test x) (other x) (implies x) (fewer_kept test other implies xs)
  where
    by_tests : (a b : Bool) → (a ≡ true → b ≡ true) → length (filter test xs) ≤ length (filter other xs)
        → length (cond a (x ∷ filter test xs) (filter test xs)) ≤ length (cond b (x ∷ filter other xs) (filter other xs))
    by_tests true true both order = omega (arith, order)
    by_tests true false both order = absurd (cc (both refl))
    by_tests false true both order = omega (arith, order)
    by_tests false false both order = order

not_none : (o : Option ℕ) (byte : ℕ) → o ≡ Some byte → is_none o ≡ false
not_none o byte is = ap (λ (x : Option ℕ). is_none x) is

-- sections that are all among others tell no more than these
pub more_known : (rows : ℕ) (group more : List FrameSection) → ((s : FrameSection) → Member group s → Member more s)
    → (r : ℕ) → length (unknown_columns rows (known_byte rows more) r) ≤ length (unknown_columns rows (known_byte rows group) r)
unfolding unknown_columns
more_known rows group more among r =
    fewer_kept (λ (j : ℕ). is_none (known_byte rows more (j * rows + r))) (λ (j : ℕ). is_none (known_byte rows group (j * rows + r))) (λ j. implies (j * rows + r)) (range_with_len 0 255)
  where
    implies : (place : ℕ) → is_none (known_byte rows more place) ≡ true → is_none (known_byte rows group place) ≡ true
    implies place none = by_byte (known_byte rows group place) refl
      where
        both : true ≡ false → ⊥
        both e = cc

        by_byte : (o : Option ℕ) → known_byte rows group place ≡ o → is_none (known_byte rows group place) ≡ true
        by_byte None is = ap (λ (o : Option ℕ). is_none o) is
        by_byte (Some byte) is =
            let told = known_told rows group place byte is in
            absurd (both (sym none ∙ known_by rows more told.0 place (among told.0 told.1) (not_none (told_byte rows told.0 place) byte told.2)))

-- what is recoverable from some sections is so from more
pub recoverable_more : (rows : ℕ) (group more : List FrameSection) → ((s : FrameSection) → Member group s → Member more s)
    → IsRecoverable rows group → IsRecoverable rows more
recoverable_more rows group more among recoverable = record {
  row = λ r low. omega (arith, recoverable.row r low, more_known rows group more among r);
}

-- Of nothing no frame is recoverable.

all_kept : (test : ℕ → Bool) → ((j : ℕ) → test j ≡ true) → (n a : ℕ) → length (filter test (range_with_len a n)) ≡ n
all_kept test passes zero a = refl
all_kept test passes (suc n) a = by_test (test a) (passes a) (all_kept test passes n (a + 1))
  where
    by_test : (b : Bool) → b ≡ true → length (filter test (range_with_len (a + 1) n)) ≡ n
        → length (cond b (a ∷ filter test (range_with_len (a + 1) n)) (filter test (range_with_len (a + 1) n))) ≡ suc n
    by_test true is later = ap (λ (k : ℕ). suc k) later
    by_test false is later = absurd (cc)

pub nothing_known : (rows r : ℕ) → length (unknown_columns rows (known_byte rows []) r) ≡ 255
unfolding unknown_columns
nothing_known rows r = all_kept (λ (j : ℕ). is_none (known_byte rows [] (j * rows + r))) (λ j. refl) 255 0

nothing_recovers : (rows : ℕ) → 0 < rows → IsRecoverable rows [] → ⊥
nothing_recovers rows some recoverable = omega (arith, recoverable.row 0 some, nothing_known rows 0)

-- Datagrams that came in a section of their own.

rising_less : (k : ℕ) (numbers : List ℕ) → IsRising (k + 1) numbers → IsRising k numbers
rising_less k [] rising = tt
rising_less k (n ∷ numbers) rising = (omega (arith, rising.0), rising.1)

-- a datagram_section of datagram n is one of some
abbrev IsOwn : FrameFields → List MpeFields → ℕ → Type 0
IsOwn frame all n = (n < length frame.datagrams) × (m : MpeFields) × Member all m × IsSectionOfDatagram frame n m

-- their numbers
record Own (frame : FrameFields) (all : List MpeFields) (i : ℕ) (group : List FrameSection) : Type 0 where
  pub numbers : List ℕ
  pub rising : IsRising i numbers
  pub each : (n : ℕ) → Member numbers n → IsOwn frame all n
  pub are : own_datagrams group ≡ map (datagram_at frame.datagrams) numbers

own_numbers : (rows : ℕ) (frame : FrameFields) (all : List MpeFields) (sections group : List FrameSection) (i : ℕ) → AreSectionsFrom rows frame i sections
    → IsSubsequence group sections → ((m : MpeFields) → Member (data_of group) m → Member all m) → Own frame all i group
own_numbers rows frame all sections [] i are within among = record { numbers = []; rising = tt; each = λ n there. absurd there; are = refl }
own_numbers rows frame all [] (g ∷ group) i are within among = absurd within
own_numbers rows frame all (s ∷ sections) (data_section m ∷ group) i are (inl taken) among =
    let of_frame : IsSectionOfFrame rows frame i (data_section m) = subst (λ (t : FrameSection). IsSectionOfFrame rows frame i t) (sym taken.0) are.0 in
    with_rest of_frame (own_numbers rows frame all sections group (i + 1) are.1 taken.1 (λ d there. among d (inr there)))
  where
    with_rest : IsSectionOfFrame rows frame i (data_section m) → Own frame all (i + 1) group → Own frame all i (data_section m ∷ group)
    with_rest of_frame rest = record {
      numbers = i ∷ rest.numbers;
      rising = (omega arith, rest.rising);
      each = each_one;
      are = ap₂ (λ (d : List ℕ) (l : List (List ℕ)). d ∷ l) (of_frame.1).datagram rest.are;
    }
      where
        each_one : (n : ℕ) → Member (i ∷ rest.numbers) n → IsOwn frame all n
        each_one n (inl same) = subst (IsOwn frame all) same (of_frame.0, m, among m (inl refl), of_frame.1)
        each_one n (inr there) = rest.each n there
own_numbers rows frame all (s ∷ sections) (parity_section f ∷ group) i are (inl taken) among =
    with_rest (own_numbers rows frame all sections group (i + 1) are.1 taken.1 among)
  where
    with_rest : Own frame all (i + 1) group → Own frame all i (parity_section f ∷ group)
    with_rest rest = record { numbers = rest.numbers; rising = rising_less i rest.numbers rest.rising; each = rest.each; are = rest.are }
own_numbers rows frame all (s ∷ sections) (g ∷ group) i are (inr later) among =
    with_rest (own_numbers rows frame all sections (g ∷ group) (i + 1) are.1 later among)
  where
    with_rest : Own frame all (i + 1) (g ∷ group) → Own frame all i (g ∷ group)
    with_rest rest = record { numbers = rest.numbers; rising = rising_less i rest.numbers rest.rising; each = rest.each; are = rest.are }

module _ (rows : ℕ) (frame : FrameFields) (sections group : List FrameSection) (sent : IsSentFrame rows frame sections) (kept : IsSubsequence group sections) where
  abbrev bytes : ℕ → Option ℕ
  bytes = corrected_byte rows (known_byte rows group)

  known_agrees : (place byte : ℕ) → known_byte rows group place ≡ Some byte → get_or (table_of rows frame) place 0 ≡ byte
  known_agrees = known_sent rows frame sections group sent kept

  edges : (m : MpeFields) → Member (data_of group) m
      → (n : ℕ) × (n < length frame.datagrams) × (m.datagram ≡ get_or frame.datagrams n []) × (m.real_time.address ≡ datagram_start frame.datagrams n)
  edges m there =
      let at = kept_section rows frame sections group sent kept (data_section m) (data_member group m there) in
      (at.0, (at.1).0, ((at.1).1).datagram, ((at.1).1).address)

  -- corrected bytes are those of the sent table
  pub bytes_agree : (place byte : ℕ) → place < 255 * rows → bytes place ≡ Some byte → get_or (table_of rows frame) place 0 ≡ byte
  bytes_agree place byte below is =
      corrected_agrees rows (table_of rows frame) (known_byte rows group) known_agrees (sent.is).codewords (rows_some rows frame sent.is) place byte below is

  pub bytes_whole : IsRecoverable rows group → (place : ℕ) → place < 255 * rows → bytes place ≡ Some (get_or (table_of rows frame) place 0)
  bytes_whole recoverable place below =
      corrected_whole rows (table_of rows frame) (known_byte rows group) known_agrees (sent.is).codewords (rows_some rows frame sent.is) recoverable.row place below

  data_agrees : (place byte : ℕ) → place < 191 * rows → bytes place ≡ Some byte → get_or (data_table rows frame.datagrams) place 0 ≡ byte
  data_agrees place byte below is =
      sym (table_data rows frame place (sent.is).fits below) ∙ bytes_agree place byte (omega (arith, below)) is

  data_whole : IsRecoverable rows group → (place : ℕ) → place < 191 * rows → bytes place ≡ Some (get_or (data_table rows frame.datagrams) place 0)
  data_whole recoverable place below =
      bytes_whole recoverable place (omega (arith, below)) ∙ ap (λ (b : ℕ). Some b) (table_data rows frame place (sent.is).fits below)

  -- what is found was sent, in order
  pub datagrams_sent : IsSubsequence (frame_datagrams rows group) frame.datagrams
  datagrams_sent = found_subsequence rows frame.datagrams bytes (sent.is).fits (sent.is).datagrams_are data_agrees (data_of group) edges

  -- of a recoverable frame all is found
  pub datagrams_all : IsRecoverable rows group → frame_datagrams rows group ≡ frame.datagrams
  datagrams_all recoverable =
      found_all rows frame.datagrams bytes (sent.is).fits (sent.is).datagrams_are data_agrees (data_of group) edges (data_whole recoverable)

  -- and what came in a section of its own is found
  own : Own frame (data_of group) 0 group
  own = own_numbers rows frame (data_of group) sections group 0 sent.sections_are kept (λ m there. there)

  own_known : (n : ℕ) → IsOwn frame (data_of group) n → (i : ℕ) → i < length (get_or frame.datagrams n []) → is_none (bytes (datagram_start frame.datagrams n + i)) ≡ false
  own_known n is i low =
      stays_known rows (known_byte rows group) (datagram_start frame.datagrams n + i)
      (known_by rows group (data_section is.1) (datagram_start frame.datagrams n + i) (data_member group is.1 is.2)
      (told_own is.1 (datagram_start frame.datagrams n + i) (omega (arith, (is.3).address)) (omega (arith, low, (is.3).address, ap (λ (l : List ℕ). length l) (is.3).datagram))))
    where
      told_own : (m : MpeFields) (place : ℕ) → m.real_time.address ≤ place → place < data_end m → is_none (told_byte rows (data_section m) place) ≡ false
      told_own m place from below =
          ap (λ (b : Bool). is_none (cond b (Some (get_or m.datagram (place - m.real_time.address) 0)) (cond (m.real_time.table_boundary && is_in (data_end m) (191 * rows) place) (Some 0) None)))
          (and_from (leb m.real_time.address place) (ltb place (data_end m)) (le-leb m.real_time.address place from) (lt-ltb place (data_end m) below))

  pub datagrams_own : IsSubsequence (own_datagrams group) (frame_datagrams rows group)
  datagrams_own =
      subst (λ (l : List (List ℕ)). IsSubsequence l (frame_datagrams rows group)) (sym own.are)
      (found_own rows frame.datagrams bytes (sent.is).fits (sent.is).datagrams_are data_agrees (data_of group) edges own.numbers own.rising
      (λ n there.
      let is = own.each n there in
      (is.0, (is.1, contains_member (data_of group) is.1 is.2, inl (sym (is.3).address)), own_known n is)))

-- Frames one after another.

pub recovered : (rows : ℕ) (sent : List FrameFields) (frames kept : List (List TimedSection)) → AreSentFrames rows sent frames → AreKept kept frames
    → (parts : List (List (List ℕ))) × AreRecovered rows sent kept parts × (datagrams_of_frames rows (accepted_frames kept) ≡ all_datagrams parts)
recovered rows [] [] [] are_sent are_kept = ([], refl, refl)
recovered rows [] [] (k ∷ kept) are_sent are_kept = absurd are_kept
recovered rows [] (sections ∷ frames) kept are_sent are_kept = absurd are_sent
recovered rows (frame ∷ sent) [] kept are_sent are_kept = absurd are_sent
recovered rows (frame ∷ sent) (sections ∷ frames) [] are_sent are_kept = absurd are_kept
recovered rows (frame ∷ sent) (sections ∷ frames) ([] ∷ kept) are_sent are_kept =
    let rest = recovered rows sent frames kept are_sent.1 are_kept.1 in
    ([] ∷ rest.0, (tt, tt, (λ (recoverable : IsRecoverable rows []). absurd (nothing_recovers rows (rows_some rows frame (are_sent.0).is) recoverable)), rest.1), rest.2)
recovered rows (frame ∷ sent) (sections ∷ frames) ((s ∷ group) ∷ kept) are_sent are_kept =
    let rest = recovered rows sent frames kept are_sent.1 are_kept.1 in
    let within : IsSubsequence (sections_of (s ∷ group)) (sections_of sections) = are_kept.0 in (
      frame_datagrams rows (sections_of (s ∷ group)) ∷ rest.0,
      (
        datagrams_sent rows frame (sections_of sections) (sections_of (s ∷ group)) are_sent.0 within,
        datagrams_own rows frame (sections_of sections) (sections_of (s ∷ group)) are_sent.0 within,
        datagrams_all rows frame (sections_of sections) (sections_of (s ∷ group)) are_sent.0 within,
        rest.1,
      ),
      ap (λ (l : List (List ℕ)). frame_datagrams rows (sections_of (s ∷ group)) ++ l) rest.2,
    )
