-- From accepted units of a service to the datagrams that its received frames give.
use Rattle.std.proofs.Common.{◌≡◌, ◌⊎◌, inl, inr, ℕ, zero, suc, ◌+◌, ◌*◌, ◌<◌, ◌≤◌, List, [], ◌∷◌, length, get_or, map, flat_map, refl, ap, sym, ◌∙◌, subst, arith}
use Rattle.std.specs.Prelude.{Contains, slice_index_or}
use Rattle.ts_spec.specs.Reassembly.{PlacedUnit}
use Rattle.ts_spec.specs.Packetized.{unit_at}
use Rattle.channel_spec.specs.Carried.{IsRising}
use Rattle.channel_law.proofs.Member.{Member, contains_member, member_contains, member_at}
use Rattle.slice_spec.specs.Sections.{Timing, indexed, sliced, SectionTime}
use Rattle.slice_spec.specs.Frames.{IsOf, HasTiming}
use Rattle.fec_frame_spec.specs.Sections.{FrameSection, TimedSection, time_of, times_of, sections_of, real_time_in, frame_sections_in, sections_of_unit}
use Rattle.fec_frame_spec.specs.Groups.{section_at, frame_at, no_section, received_frames}
use Rattle.fec_frame_spec.specs.Corrected.{IsRecoverable}
use Rattle.fec_frame_spec.specs.Delivered.{datagrams_of_frames, delivered_by_frames}
use Rattle.fec_frame_spec.specs.Frame.{FrameFields}
use Rattle.fec_frame_spec.specs.Carried.{sections_of_units, AreFramesOf}
use Rattle.fec_frame_law.specs.Kept.{ArePaired, HasNumber, IsReceivedOf, AreTimed, AreKeptOften, sections_before, IsUnitOfFrame, IsAcceptedOf, AreAcceptedOften, AreNumbered}
use Rattle.fec_frame_law.specs.Recovered.{AreRecovered, no_frame, IsRecoverableFrom, IsRecovered}
use Rattle.fec_frame_law.proofs.Numbers.{Parted, parted}
use Rattle.fec_frame_law.proofs.Units.{one_section, section_is, section_numbers, numbers_rise, number_in, number_of, numbers_low, IsOfAccepted, accepted_alike, sections_are}
use Rattle.fec_frame_law.proofs.Between.{received_sent, kept_at, kept_long, kept_from, is_of, times_long}
use Rattle.fec_frame_law.proofs.Datagrams.{recovered, recoverable_more}

-- a frame by its number
recovered_at : (rows : ℕ) (fields : List FrameFields) (kept : List (List TimedSection)) (parts : List (List (List ℕ))) → AreRecovered rows fields kept parts
    → (i : ℕ) → i < length fields → IsRecoverable rows (sections_of (frame_at kept i)) → slice_index_or parts i [] ≡ (slice_index_or fields i no_frame).datagrams
recovered_at rows [] kept parts are i low recoverable = absurd (omega (arith, low))
recovered_at rows (frame ∷ fields) [] parts are i low recoverable = absurd are
recovered_at rows (frame ∷ fields) (k ∷ kept) [] are i low recoverable = absurd are
recovered_at rows (frame ∷ fields) (k ∷ kept) (part ∷ parts) are zero low recoverable = are.2 recoverable
recovered_at rows (frame ∷ fields) (k ∷ kept) (part ∷ parts) are (suc i) low recoverable = recovered_at rows fields kept parts are.3 i (omega (arith, low)) recoverable

-- Units that have their numbers by their places.

pub number_bytes : (units : List (List ℕ)) (accepted : List PlacedUnit) (numbers : List ℕ) → map (λ (x : PlacedUnit). x.unit) accepted ≡ map (unit_at units) numbers
    → (a : PlacedUnit) (n : ℕ) → HasNumber accepted numbers a n → unit_at units n ≡ a.unit
number_bytes units [] numbers same a n is = absurd is
number_bytes units (x ∷ accepted) [] same a n is = absurd is
number_bytes units (x ∷ accepted) (m ∷ numbers) same a n (inl here) =
    let first : x.unit ≡ unit_at units m = ap (λ (l : List (List ℕ)). get_or l 0 []) same in
    ap (unit_at units) (sym here.1) ∙ sym first ∙ ap (λ (y : PlacedUnit). y.unit) here.0
number_bytes units (x ∷ accepted) (m ∷ numbers) same a n (inr behind) =
    let rest : map (λ (y : PlacedUnit). y.unit) accepted ≡ map (unit_at units) numbers = cc in
    number_bytes units accepted numbers rest a n behind

pub by_place : (units : List (List ℕ)) (accepted : List PlacedUnit) (numbers : List ℕ) → map (λ (x : PlacedUnit). x.unit) accepted ≡ map (unit_at units) numbers
    → ArePaired (HasNumber accepted numbers) accepted numbers
by_place units accepted numbers same = among accepted numbers same (λ a n is. is)
  where
    among : (xs : List PlacedUnit) (ns : List ℕ) → map (λ (x : PlacedUnit). x.unit) xs ≡ map (unit_at units) ns
        → ((a : PlacedUnit) (n : ℕ) → HasNumber xs ns a n → HasNumber accepted numbers a n) → ArePaired (HasNumber accepted numbers) xs ns
    among [] [] alike each = tt
    among [] (n ∷ ns) alike each = absurd (cc)
    among (x ∷ xs) [] alike each = absurd (cc)
    among (x ∷ xs) (n ∷ ns) alike each =
        let rest : map (λ (y : PlacedUnit). y.unit) xs ≡ map (unit_at units) ns = cc in
        (each x n (inl (refl, refl)), among xs ns rest (λ a m is. each a m (inr is)))

-- times are those of sections
of_frame : (frame : List TimedSection) (x : SectionTime) → Member (times_of frame) x → (s : TimedSection) × Member frame s × (time_of s ≡ x)
of_frame [] x there = absurd there
of_frame (s ∷ frame) x (inl same) = (s, inl refl, same)
of_frame (s ∷ frame) x (inr there) = let found = of_frame frame x there in (found.0, inr found.1, found.2)

of_frames : (frames : List (List TimedSection)) (i : ℕ) (x : SectionTime) → Member (get_or (map times_of frames) i []) x
    → (s : TimedSection) × Member (frame_at frames i) s × (time_of s ≡ x)
of_frames [] i x there = absurd there
of_frames (frame ∷ frames) zero x there = of_frame frame x there
of_frames (frame ∷ frames) (suc i) x there = of_frames frames i x there

section_member : (group : List TimedSection) (s : TimedSection) → Member group s → Member (sections_of group) s.section
section_member [] s there = absurd there
section_member (t ∷ group) s (inl same) = inl (ap (λ (u : TimedSection). u.section) same)
section_member (t ∷ group) s (inr there) = inr (section_member group s there)

one_same : (xs : List FrameSection) (s t : FrameSection) → xs ≡ s ∷ [] → xs ≡ t ∷ [] → s ≡ t
one_same xs s t is also = cc

module _ (timing : Timing) (rows first : ℕ) (units : List (List ℕ)) (moments : ℕ → ℕ) (fields : List FrameFields) (frames : List (List TimedSection))
    (are : AreFramesOf timing rows first units moments fields frames) (accepted : List PlacedUnit) (numbers : List ℕ)
    (rising : IsRising 0 numbers) (within : (n : ℕ) → Member numbers n → n < length units)
    (is_sent : PlacedUnit → ℕ → Type 0) (bytes : (a : PlacedUnit) (n : ℕ) → is_sent a n → unit_at units n ≡ a.unit) (same : ArePaired is_sent accepted numbers)
    (timed : (ten : ℕ) → timing ≡ sliced ten → AreTimed ten rows units frames is_sent) where
  abbrev pub all : List TimedSection
  all = sections_of_units rows units moments

  abbrev pub sections : List TimedSection
  sections = flat_map (sections_of_unit rows) accepted

  abbrev pub of_sections : List ℕ
  of_sections = section_numbers rows units moments numbers

  abbrev pub Is : TimedSection → ℕ → Type 0
  Is s k = IsOfAccepted rows units moments is_sent s k

  pub all_kept : Parted all Is (accepted_alike rows units moments is_sent) 0 frames sections of_sections
  all_kept =
      parted all Is (accepted_alike rows units moments is_sent) frames 0 sections of_sections
      (λ i low. let e : 0 + i ≡ i = omega arith in ap (section_at all) e ∙ ap (λ (l : List TimedSection). section_at l i) are.read)
      (numbers_rise rows units moments 0 numbers rising within (omega arith))
      (λ n there. omega (arith, numbers_low rows units moments numbers within n there, ap (λ (l : List TimedSection). length l) are.read))
      (sections_are rows units moments is_sent bytes accepted numbers within same)

  abbrev pub kept : List (List TimedSection)
  kept = all_kept.kept

  -- the section of a number is that of its unit
  section_same : (s : TimedSection) (n : ℕ) (t : FrameSection) → n < length units → frame_sections_in rows (unit_at units n) ≡ t ∷ []
      → Is s (sections_before rows units n) → s.section ≡ t
  section_same s n t low reads is =
      accepted_alike rows units moments is_sent s (sections_before rows units n) is ∙ ap (λ (u : TimedSection). u.section) (section_is rows units moments n t low reads)

  of_numbers : (i : ℕ) (s : TimedSection) → Member (frame_at kept i) s
      → (n : ℕ) × Contains numbers n × IsUnitOfFrame rows units frames i n × (frame_sections_in rows (unit_at units n) ≡ s.section ∷ [])
  of_numbers i s there =
      let found = all_kept.of_numbers i s there in
      let unit = number_of rows units moments numbers found.0 found.1 in
      let low = within unit.unit unit.among in
      let is : Is s (sections_before rows units unit.unit) = subst (Is s) (sym unit.number) found.5 in (
        unit.unit,
        contains_member numbers unit.unit unit.among,
        record {
          unit = low;
          reads = omega (arith, ap (λ (l : List FrameSection). length l) unit.reads);
          frame = found.2;
          from = omega (arith, found.3, unit.number);
          below = omega (arith, found.4, unit.number);
        },
        unit.reads ∙ ap (λ (t : FrameSection). t ∷ []) (sym (section_same s unit.unit unit.section low unit.reads is)),
      )

  numbers_are : (i n : ℕ) → Member numbers n → IsUnitOfFrame rows units frames i n
      → (s : TimedSection) × Member (frame_at kept i) s × (frame_sections_in rows (unit_at units n) ≡ s.section ∷ [])
  numbers_are i n there of_frame = by_one (frame_sections_in rows (unit_at units n)) refl (one_section rows (unit_at units n))
    where
      by_one : (xs : List FrameSection) → frame_sections_in rows (unit_at units n) ≡ xs → (xs ≡ []) ⊎ ((t : FrameSection) × (xs ≡ t ∷ []))
          → (s : TimedSection) × Member (frame_at kept i) s × (frame_sections_in rows (unit_at units n) ≡ s.section ∷ [])
      by_one xs is (inl none) = absurd (omega (arith, of_frame.reads, ap (λ (l : List FrameSection). length l) (is ∙ none)))
      by_one xs is (inr one) =
          let reads : frame_sections_in rows (unit_at units n) ≡ one.0 ∷ [] = is ∙ one.1 in
          let found = all_kept.numbers_are i (sections_before rows units n) (number_in rows units moments numbers n one.0 there reads) of_frame.frame
          (omega (arith, of_frame.from)) (omega (arith, of_frame.below)) in
          (found.0, found.1, reads ∙ ap (λ (t : FrameSection). t ∷ []) (sym (section_same found.0 n one.0 of_frame.unit reads found.2)))

  pub are_numbered : AreNumbered rows units frames numbers kept
  are_numbered = record {
    of_numbers = λ i s there. of_numbers i s (member_contains (frame_at kept i) s there);
    numbers_are = λ i n there of_frame.
        let found = numbers_are i n (member_contains numbers n there) of_frame in (found.0, contains_member (frame_at kept i) found.0 found.1, found.2);
  }

  -- frames of which sections were accepted often
  kept_often : AreAcceptedOften rows units frames (λ n. Contains numbers n) → AreKeptOften kept
  kept_often often = record { one = one_more }
    where
      some : (i : ℕ) → 0 < length (frame_at kept i) → IsAcceptedOf rows units frames (λ n. Contains numbers n) i
      some i filled =
          let found = of_numbers i (section_at (frame_at kept i) 0) (member_at (frame_at kept i) 0 no_section filled) in
          (found.0, found.1, found.2)

      is_some : (xs : List TimedSection) (s : TimedSection) → Member xs s → 0 < length xs
      is_some [] s there = absurd there
      is_some (x ∷ xs) s there = omega arith

      one_more : (n l from : ℕ) → n < from → from + 4095 ≤ l → l < length kept → 0 < length (frame_at kept n) → 0 < length (frame_at kept l)
          → (i : ℕ) × (from ≤ i) × (i < from + 4095) × (0 < length (frame_at kept i))
      one_more n l from before behind low some_n some_l =
          let found = often.one n l from before behind (some n some_n) (some l some_l) in
          let number = found.3 in
          let section = numbers_are found.0 number.0 (member_contains numbers number.0 number.1) number.2 in
          (found.0, found.1, found.2, is_some (frame_at kept found.0) section.0 section.1)

  -- a frame that is recoverable from some of its accepted sections is so from all
  from_accepted : (i : ℕ) → IsRecoverableFrom rows units frames (λ n. Contains numbers n) i → IsRecoverable rows (sections_of (frame_at kept i))
  from_accepted i from = recoverable_more rows from.sections (sections_of (frame_at kept i)) among from.recoverable
    where
      among : (s : FrameSection) → Member from.sections s → Member (sections_of (frame_at kept i)) s
      among s there =
          let unit = from.each s (contains_member from.sections s there) in
          let found = numbers_are i unit.0 (member_contains numbers unit.0 unit.1) unit.2 in
          subst (λ (t : FrameSection). Member (sections_of (frame_at kept i)) t)
          (one_same (frame_sections_in rows (unit_at units unit.0)) (found.0).section s found.2 unit.3)
          (section_member (frame_at kept i) found.0 found.1)

  -- Times of what was kept.

  received_of : (i : ℕ) (s : TimedSection) → Member (frame_at kept i) s → IsReceivedOf rows units frames is_sent i s
  received_of i s there =
      let found = all_kept.of_numbers i s there in
      let is : Is s found.0 = found.5 in
      record {
        accepted = is.accepted;
        number = is.unit;
        sent_unit = is.sent_unit;
        of_frame = record {
          unit = is.low;
          reads = omega (arith, ap (λ (l : List FrameSection). length l) is.reads);
          frame = found.2;
          from = omega (arith, found.3, is.number);
          below = omega (arith, found.4, is.number);
        };
        reads = is.timed;
      }

  -- a time of kept frame i is that of a section, whose delta_t the frame has
  record IsTimeOf (i : ℕ) (x : SectionTime) : Type 0 where
    pub section : TimedSection
    pub there : Member (frame_at kept i) section
    pub is : time_of section ≡ x
    pub sent_one : TimedSection
    pub sent_there : IsOf (map times_of frames) i (time_of sent_one)
    pub delta : x.delta ≡ (time_of sent_one).delta

  time_is : (i : ℕ) (x : SectionTime) → IsOf (map times_of kept) i x → IsTimeOf i x
  time_is i x is =
      let found = of_frames kept i x (member_contains (get_or (map times_of kept) i []) x is) in
      let from = kept_from (frame_at kept i) (frame_at frames i) (kept_at kept frames all_kept.are i) found.0 found.1 in
      record {
        section = found.0;
        there = found.1;
        is = found.2;
        sent_one = from.0;
        sent_there = contains_member (get_or (map times_of frames) i []) (time_of from.0) (is_of frames i from.0 from.1);
        delta = ap (λ (t : SectionTime). t.delta) (sym found.2) ∙ ap (λ (f : FrameSection). (real_time_in f).delta) from.2;
      }

  abbrev pub KeptTimed : Timing → Type 0
  KeptTimed t = HasTiming t first (map times_of kept)

  kept_timed : (t : Timing) → HasTiming t first (map times_of frames) → ((ten : ℕ) → t ≡ sliced ten → AreTimed ten rows units frames is_sent) → KeptTimed t
  kept_timed indexed sent_timed times = record { index = λ i x is. let a = time_is i x is in a.delta ∙ sent_timed.index i (time_of a.sent_one) a.sent_there }
  kept_timed (sliced ten) sent_timed times = record {
    within = λ i x y is_x is_y some.
        let a = time_is i x is_x in
        let b = time_is i y is_y in
        let m_a : a.section.moment ≡ x.moment = ap (λ (t : SectionTime). t.moment) a.is in
        let d_a : (time_of a.section).delta ≡ x.delta = ap (λ (t : SectionTime). t.delta) a.is in
        let m_b : b.section.moment ≡ y.moment = ap (λ (t : SectionTime). t.moment) b.is in
        omega (
          arith,
          (times ten refl).within i a.section b.section (received_of i a.section a.there) (received_of i b.section b.there) (omega (arith, some, d_a)),
          m_a,
          m_b,
          ap (λ (d : ℕ). ten * d) d_a,
        );
    after = λ i j x y less is_x is_y some.
        let a = time_is i x is_x in
        let b = time_is j y is_y in
        let m_a : a.section.moment ≡ x.moment = ap (λ (t : SectionTime). t.moment) a.is in
        let d_a : (time_of a.section).delta ≡ x.delta = ap (λ (t : SectionTime). t.delta) a.is in
        let m_b : b.section.moment ≡ y.moment = ap (λ (t : SectionTime). t.moment) b.is in
        omega (
          arith,
          (times ten refl).after i j a.section b.section less (received_of i a.section a.there) (received_of j b.section b.there) (omega (arith, some, d_a)),
          m_a,
          m_b,
          ap (λ (d : ℕ). ten * d) d_a,
        );
    last = λ i x is none.
        let a = time_is i x is in
        times_long kept
        ∙ kept_long kept frames all_kept.are
        ∙ sym (times_long frames)
        ∙ sent_timed.last i (time_of a.sent_one) a.sent_there (sym a.delta ∙ none);
  }

  pub are_timed : HasTiming timing first (map times_of kept)
  are_timed = kept_timed timing are.timed timed

  pub accepted_recovered : (is_intact : ℕ → Type 0) → ((n : ℕ) → n < length units → is_intact n → Contains numbers n)
      → (timing ≡ indexed → AreAcceptedOften rows units frames (λ n. Contains numbers n))
      → IsRecovered rows units fields frames numbers is_intact (delivered_by_frames timing rows sections)
  accepted_recovered is_intact intact often =
      let parts = recovered rows fields frames kept are.sent all_kept.are in
      record {
        kept = kept;
        numbered = are_numbered;
        parts = parts.0;
        recovered = parts.1;
        whole = λ i low from.
            recovered_at rows fields kept parts.0 parts.1 i low
            (from_accepted i
            (record {
              sections = from.sections;
              each = λ s there.
                  let unit = from.each s there in (unit.0, intact unit.0 (unit.2).unit unit.1, unit.2, unit.3);
              recoverable = from.recoverable;
            }));
        delivered_are =
            ap (λ (l : List TimedSection). datagrams_of_frames rows (received_frames timing rows l)) all_kept.xs_are
            ∙ ap (datagrams_of_frames rows) (received_sent timing first kept frames all_kept.are are_timed rows fields are.sent (λ is. kept_often (often is)))
            ∙ parts.2;
      }
