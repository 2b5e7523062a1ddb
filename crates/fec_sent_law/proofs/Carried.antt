-- The units of a service's frames carry its datagrams in frames.
use Rattle.std.proofs.Common.{◌≡◌, inl, inr, ℕ, zero, suc, ◌+◌, ◌*◌, ◌%◌, ◌<◌, ◌≤◌, true, List, [], ◌∷◌, ◌++◌, length, map, flat_map, Some, refl, ap, ap₂, sym, ◌∙◌, subst, arith, le-leb, leb-true, length-append, append_assoc}
use Rattle.std.specs.Prelude.{slice_index_or}
use Rattle.std.specs.List.{range_with_len, All}
use Rattle.std.proofs.lemmas.List.{length-map, map-append, get_or_at, length_push}
use Rattle.std.proofs.lemmas.List.Elements.{All-append, All-cons, All-head, All-nil, All-tail}
use Rattle.wire_spec.specs.Bytes.{AreBytes}
use Rattle.wire_spec.specs.Datagram.{IsDatagram}
use Rattle.wire_spec.specs.Lists.{joined}
use Rattle.ts_spec.specs.Packetized.{unit_at}
use Rattle.channel_law.proofs.Member.{Member, member_contains}
use Rattle.ts_spec.specs.Form.{IsUnit}
use Rattle.section_spec.specs.Section.{section_fields, section_form}
use Rattle.section_spec.specs.Mpe.{MpeFields, FecFields, RealTimeFields, IsRows, IsRealTime, IsWritableMpe, IsWritableFec, mpe_of, fec_of, mpe_bytes, fec_bytes, mpe_to_write}
use Rattle.slice_spec.specs.Sections.{indexed, SectionTime}
use Rattle.fec_frame_spec.specs.Sections.{FrameSection, TimedSection, times_of, sections_of, timed_section, timed_sections_in, frame_sections_in}
use Rattle.fec_frame_spec.specs.Groups.{all_sections}
use Rattle.fec_frame_spec.specs.Frame.{IsSentFrame, AreSentFrames}
use Rattle.fec_frame_spec.specs.Sender.{frame_of, fits_table, section_unit}
use Rattle.fec_frame_spec.specs.Carried.{AreFramesOf, CarriesInFrames, datagrams_sent, sections_of_units}
use Rattle.fec_frame_law.proofs.Places.{datagram_long}
use Rattle.stream_spec.specs.Units.{mac_for, datagrams_by_frame, units_of_frame, units_of_frames}
use Rattle.fec_sent_law.specs.Frames.{IsSendable, sections_of_frame}
use Rattle.fec_sent_law.proofs.Fitting.{AreFilled, IsFilled, all_in_frames, all_of, frames_filled}
use Rattle.fec_sent_law.proofs.Sent.{AreAt, AreRead, all_sections_are, frame_at_one, frame_read, is_frame}

-- Sections with the moments of their units, of which n come before.

module _ (moments : ℕ → ℕ) where
  abbrev pub timed_from : ℕ → List FrameSection → List TimedSection
  timed_from n [] = []
  timed_from n (s ∷ sections) = timed_section (moments n) s ∷ timed_from (n + 1) sections

  abbrev pub all_timed : ℕ → List (List FrameSection) → List (List TimedSection)
  all_timed n [] = []
  all_timed n (frame ∷ frames) = timed_from n frame ∷ all_timed (n + length frame) frames

  timed_sections : (n : ℕ) (sections : List FrameSection) → sections_of (timed_from n sections) ≡ sections
  timed_sections n [] = refl
  timed_sections n (s ∷ sections) = ap (λ (l : List FrameSection). s ∷ l) (timed_sections (n + 1) sections)

  timed_both : (n : ℕ) (a b : List FrameSection) → timed_from n (a ++ b) ≡ timed_from n a ++ timed_from (n + length a) b
  timed_both n [] b = let e : n ≡ n + 0 = omega arith in ap (λ (k : ℕ). timed_from k b) e
  timed_both n (s ∷ a) b =
      let e : n + 1 + length a ≡ n + suc (length a) = omega arith in
      ap (λ (l : List TimedSection). timed_section (moments n) s ∷ l)
      (timed_both (n + 1) a b ∙ ap (λ (k : ℕ). timed_from (n + 1) a ++ timed_from k b) e)

  timed_all : (n : ℕ) (frames : List (List FrameSection)) → all_sections (all_timed n frames) ≡ timed_from n (flat_map (λ (f : List FrameSection). f) frames)
  timed_all n [] = refl
  timed_all n (frame ∷ frames) =
      ap (λ (l : List TimedSection). timed_from n frame ++ l) (timed_all (n + length frame) frames)
      ∙ sym (timed_both n frame (flat_map (λ (f : List FrameSection). f) frames))

  -- units that read as their sections
  module _ (rows : ℕ) where
    abbrev AllRead : List FrameSection → Type 0
    AllRead [] = Unit {0}
    AllRead (s ∷ sections) = (frame_sections_in rows (section_unit s) ≡ s ∷ []) × AllRead sections

    all_read_both : (a b : List FrameSection) → AllRead a → AllRead b → AllRead (a ++ b)
    all_read_both [] b are others = others
    all_read_both (s ∷ a) b are others = (are.0, all_read_both a b are.1 others)

    units_from_place : (front : List (List ℕ)) (a : ℕ) → length front ≡ a → (sections : List FrameSection) → AllRead sections
        → flat_map (λ (n : ℕ). timed_sections_in rows (moments n) (unit_at (front ++ map section_unit sections) n)) (range_with_len a (length sections))
        ≡ timed_from a sections
    units_from_place front a size [] are = refl
    units_from_place front a size (s ∷ sections) are =
        ap₂ (λ (x y : List TimedSection). x ++ y) first
        (rest (units_from_place (front ++ section_unit s ∷ []) (a + 1) (length_push front (section_unit s) ∙ ap (λ (n : ℕ). n + 1) size) sections are.1))
      where
        units : List (List ℕ)
        units = front ++ section_unit s ∷ map section_unit sections

        first : timed_sections_in rows (moments a) (unit_at units a) ≡ timed_section (moments a) s ∷ []
        first =
            ap (λ (u : List ℕ). timed_sections_in rows (moments a) u) (get_or_at front (section_unit s) (map section_unit sections) [] a size)
            ∙ ap (λ (l : List FrameSection). map (timed_section (moments a)) l) are.0

        moved : units ≡ (front ++ section_unit s ∷ []) ++ map section_unit sections
        moved = sym (append_assoc front (section_unit s ∷ []) (map section_unit sections))

        timed_of : List (List ℕ) → List TimedSection
        timed_of us = flat_map (λ (n : ℕ). timed_sections_in rows (moments n) (unit_at us n)) (range_with_len (a + 1) (length sections))

        rest : timed_of ((front ++ section_unit s ∷ []) ++ map section_unit sections) ≡ timed_from (a + 1) sections → timed_of units ≡ timed_from (a + 1) sections
        rest later = ap timed_of moved ∙ later

    pub units_read : (sections : List FrameSection) → AllRead sections → sections_of_units rows (map section_unit sections) moments ≡ timed_from 0 sections
    units_read sections are =
        ap (λ (n : ℕ). flat_map (λ (i : ℕ). timed_sections_in rows (moments i) (unit_at (map section_unit sections) i)) (range_with_len 0 n)) (length-map sections section_unit)
        ∙ units_from_place [] 0 refl sections are

  -- the delta_t of a section of one frame
  time_is : (delta n : ℕ) (sections : List FrameSection) → AreAt delta sections → (x : SectionTime) → Member (times_of (timed_from n sections)) x → x.delta ≡ delta
  time_is delta n [] are x there = absurd there
  time_is delta n (s ∷ sections) are x (inl same) = ap (λ (t : SectionTime). t.delta) (sym same) ∙ are.0
  time_is delta n (s ∷ sections) are x (inr there) = time_is delta (n + 1) sections are.1 x there

read_all : (moments : ℕ → ℕ) (rows : ℕ) (sections : List FrameSection) → AreRead rows sections → AllRead moments rows sections
read_all moments rows [] are = tt
read_all moments rows (s ∷ sections) are = (are.0.read, read_all moments rows sections are.1)

units_read_are : (rows : ℕ) (sections : List FrameSection) → AreRead rows sections → All (IsUnit section_form) (map section_unit sections)
units_read_are rows [] are = All-nil (IsUnit section_form)
units_read_are rows (s ∷ sections) are = All-cons (IsUnit section_form) (section_unit s) (map section_unit sections) are.0.unit (units_read_are rows sections are.1)

-- The frames of a service, the first of which has number j.

-- what is known of each datagram
pub record IsGiven (datagram : List ℕ) : Type 0 where
  pub sendable : IsSendable datagram
  pub bytes : AreBytes datagram

pub joined_some : (ds : List (List ℕ)) → 0 < length ds → All IsDatagram ds → 1 ≤ length (joined ds)
joined_some [] some are = absurd (omega (arith, some))
joined_some (d ∷ ds) some are = omega (arith, datagram_long d (All-head IsDatagram d ds are), length-append d (joined ds))

module _
    (mpe_unit : (m : MpeFields) → IsWritableMpe m → IsUnit section_form (mpe_bytes m))
    (fec_unit : (f : FecFields) → IsWritableFec f → IsUnit section_form (fec_bytes f))
    (mpe_read : (m : MpeFields) → IsWritableMpe m → mpe_of (section_fields (mpe_bytes m)) ≡ Some m)
    (fec_read : (f : FecFields) → IsWritableFec f → fec_of (length f.column) (section_fields (fec_bytes f)) ≡ Some f)
    (mpe_can : (t : RealTimeFields) (mac datagram : List ℕ) → IsRealTime t → AreBytes mac → length mac ≡ 6 → IsDatagram datagram → length datagram ≤ 4080
    → IsWritableMpe (mpe_to_write mac (Some t) datagram))
    (rows columns : ℕ) (rows_are : IsRows rows) (least : 1 ≤ columns) (most : columns ≤ 64) (unicast : List ℕ)
    (mac_bytes : (d : List ℕ) → AreBytes d → AreBytes (mac_for unicast d)) (mac_size : (d : List ℕ) → AreBytes d → length (mac_for unicast d) ≡ 6) (first : ℕ) where
  rows_some : 256 ≤ rows
  rows_some = by_rows rows_are
    where
      by_rows : IsRows rows → 256 ≤ rows
      by_rows (inl is) = omega (arith, is)
      by_rows (inr (inl is)) = omega (arith, is)
      by_rows (inr (inr (inl is))) = omega (arith, is)
      by_rows (inr (inr (inr is))) = omega (arith, is)

  abbrev index : ℕ → ℕ
  index j = (first + j) % 4096

  -- the sections of a frame
  abbrev sections_at : ℕ → List (List ℕ) → List FrameSection
  sections_at j frame = sections_of_frame rows columns unicast (λ i. index j) frame

  abbrev all_from : ℕ → List (List (List ℕ)) → List (List FrameSection)
  all_from j [] = []
  all_from j (frame ∷ frames) = sections_at j frame ∷ all_from (j + 1) frames

  units_all : (j : ℕ) (frames : List (List (List ℕ))) → units_of_frames rows columns unicast (first + j) frames
      ≡ map section_unit (flat_map (λ (f : List FrameSection). f) (all_from j frames))
  unfolding sections_of_frame
  units_all j [] = refl
  units_all j (frame ∷ frames) =
      let e : first + j + 1 ≡ first + (j + 1) = omega arith in
      ap (λ (us : List (List ℕ)). units_of_frame rows columns unicast (first + j) frame ++ us)
      (ap (λ (n : ℕ). units_of_frames rows columns unicast n frames) e ∙ units_all (j + 1) frames)
      ∙ sym (map-append section_unit (sections_at j frame) (flat_map (λ (f : List FrameSection). f) (all_from (j + 1) frames)))

  units_first : (frames : List (List (List ℕ))) → units_of_frames rows columns unicast first frames
      ≡ map section_unit (flat_map (λ (f : List FrameSection). f) (all_from 0 frames))
  units_first frames = let e : first ≡ first + 0 = omega arith in ap (λ (n : ℕ). units_of_frames rows columns unicast n frames) e ∙ units_all 0 frames

  abbrev Filled : List (List ℕ) → Type 0
  Filled frame = IsFilled (fits_table rows) IsGiven frame

  room_is : (frame : List (List ℕ)) → Filled frame → length (joined frame) ≤ 191 * rows
  room_is frame filled = leb-true (length (joined frame)) (191 * rows) filled.fit

  are_datagrams : (frame : List (List ℕ)) → All IsGiven frame → All IsDatagram frame
  are_datagrams frame all = λ i d within. (all i d within).sendable.is

  are_short : (frame : List (List ℕ)) → All IsGiven frame → All (λ (d : List ℕ). length d ≤ 4080) frame
  are_short frame all = λ i d within. (all i d within).sendable.size

  are_bytes : (frame : List (List ℕ)) → All IsGiven frame → All AreBytes frame
  are_bytes frame all = λ i d within. (all i d within).bytes

  sections_read : (j : ℕ) (frame : List (List ℕ)) → Filled frame → AreRead rows (sections_at j frame)
  unfolding sections_of_frame
  sections_read j frame filled =
      frame_read mpe_unit fec_unit mpe_read fec_read mpe_can rows columns rows_are most (λ i. index j) (λ (i : ℕ). omega arith) (mac_for unicast) mac_bytes mac_size frame
      (joined_some frame filled.some (are_datagrams frame filled.each)) (are_datagrams frame filled.each) (are_bytes frame filled.each) (are_short frame filled.each)
      (room_is frame filled)

  sections_same : (j : ℕ) (frame : List (List ℕ)) → AreAt (index j) (sections_at j frame)
  unfolding sections_of_frame
  sections_same j frame = frame_at_one rows (frame_of rows columns frame) (mac_for unicast) (index j)

  sent_frame : (j : ℕ) (frame : List (List ℕ)) → Filled frame → IsSentFrame rows (frame_of rows columns frame) (sections_at j frame)
  unfolding sections_of_frame
  sent_frame j frame filled = record {
    is = is_frame rows columns (omega (arith, rows_some)) least most frame filled.some (are_datagrams frame filled.each) (are_bytes frame filled.each) (room_is frame filled);
    sections_are = all_sections_are rows (frame_of rows columns frame) (mac_for unicast) (λ i. index j);
  }

  module _ (moments : ℕ → ℕ) where
    sent_frames : (j n : ℕ) (frames : List (List (List ℕ))) → AreFilled (fits_table rows) IsGiven frames
        → AreSentFrames rows (map (frame_of rows columns) frames) (all_timed moments n (all_from j frames))
    sent_frames j n [] are = tt
    sent_frames j n (frame ∷ frames) are = (
      subst (λ (l : List FrameSection). IsSentFrame rows (frame_of rows columns frame) l) (sym (timed_sections moments n (sections_at j frame)))
          (sent_frame j frame are.0),
      sent_frames (j + 1) (n + length (sections_at j frame)) frames are.1,
    )

    all_are_read : (j : ℕ) (frames : List (List (List ℕ))) → AreFilled (fits_table rows) IsGiven frames
        → AllRead moments rows (flat_map (λ (f : List FrameSection). f) (all_from j frames))
    all_are_read j [] are = tt
    all_are_read j (frame ∷ frames) are =
        all_read_both moments rows (sections_at j frame) (flat_map (λ (f : List FrameSection). f) (all_from (j + 1) frames))
        (read_all moments rows (sections_at j frame) (sections_read j frame are.0)) (all_are_read (j + 1) frames are.1)

    index_is : (j n : ℕ) (frames : List (List (List ℕ))) → AreFilled (fits_table rows) IsGiven frames → (i : ℕ) (x : SectionTime)
        → Member (slice_index_or (map times_of (all_timed moments n (all_from j frames))) i []) x → x.delta ≡ index (j + i)
    index_is j n [] are i x there = absurd there
    index_is j n (frame ∷ frames) are zero x there =
        let e : j ≡ j + 0 = omega arith in
        time_is moments (index j) n (sections_at j frame) (sections_same j frame) x there ∙ ap index e
    index_is j n (frame ∷ frames) are (suc i) x there =
        let e : j + 1 + i ≡ j + suc i = omega arith in
        index_is (j + 1) (n + length (sections_at j frame)) frames are.1 i x there ∙ ap index e

    sent_datagrams : (frames : List (List (List ℕ))) → datagrams_sent (map (frame_of rows columns) frames) ≡ all_of (fits_table rows) frames
    sent_datagrams [] = refl
    sent_datagrams (frame ∷ frames) = ap (λ (l : List (List ℕ)). frame ++ l) (sent_datagrams frames)

    -- any frames that are filled so
    module _ (frames : List (List (List ℕ))) (are : AreFilled (fits_table rows) IsGiven frames) where
      pub are_frames : AreFramesOf indexed rows first (units_of_frames rows columns unicast first frames) moments
          (map (frame_of rows columns) frames) (all_timed moments 0 (all_from 0 frames))
      are_frames = record {
        sent = sent_frames 0 0 frames are;
        timed = record { index = λ i x of_it. index_at i x (member_contains (slice_index_or (map times_of (all_timed moments 0 (all_from 0 frames))) i []) x of_it) };
        read =
            ap (λ (us : List (List ℕ)). sections_of_units rows us moments) (units_first frames)
            ∙ units_read moments rows (flat_map (λ (f : List FrameSection). f) (all_from 0 frames)) (all_are_read 0 frames are)
            ∙ sym (timed_all moments 0 (all_from 0 frames));
      }
        where
          index_at : (i : ℕ) (x : SectionTime) → Member (slice_index_or (map times_of (all_timed moments 0 (all_from 0 frames))) i []) x
              → x.delta ≡ (first + i) % 4096
          index_at i x there = let e : 0 + i ≡ i = omega arith in index_is 0 0 frames are i x there ∙ ap index e

      pub frames_carry : CarriesInFrames indexed rows first (units_of_frames rows columns unicast first frames) moments (all_of (fits_table rows) frames)
      frames_carry = record {
        frames = map (frame_of rows columns) frames;
        sections = all_timed moments 0 (all_from 0 frames);
        are = are_frames;
        datagrams_are = sym (sent_datagrams frames);
      }

      pub frames_units : All (IsUnit section_form) (units_of_frames rows columns unicast first frames)
      frames_units = subst (All (IsUnit section_form)) (sym (units_first frames)) (units_in 0 frames are)
        where
          -- each unit is one
          units_in : (j : ℕ) (frames : List (List (List ℕ))) → AreFilled (fits_table rows) IsGiven frames
              → All (IsUnit section_form) (map section_unit (flat_map (λ (f : List FrameSection). f) (all_from j frames)))
          units_in j [] are = All-nil (IsUnit section_form)
          units_in j (frame ∷ frames) are =
              subst (All (IsUnit section_form))
              (sym (map-append section_unit (sections_at j frame) (flat_map (λ (f : List FrameSection). f) (all_from (j + 1) frames))))
              (All-append (IsUnit section_form) (map section_unit (sections_at j frame))
              (map section_unit (flat_map (λ (f : List FrameSection). f) (all_from (j + 1) frames)))
              (units_read_are rows (sections_at j frame) (sections_read j frame are.0)) (units_in (j + 1) frames are.1))

    module _ (datagrams : List (List ℕ)) (given : All IsGiven datagrams) where
      filled : AreFilled (fits_table rows) IsGiven (datagrams_by_frame rows datagrams)
      filled = frames_filled (fits_table rows) IsGiven datagrams [] alone given tt
        where
          alone : (d : List ℕ) → IsGiven d → fits_table rows (d ∷ []) ≡ true
          alone d is = le-leb (length (joined (d ∷ []))) (191 * rows) (omega (arith, length-append d [], is.sendable.size, rows_some))

      pub carries : CarriesInFrames indexed rows first (units_of_frames rows columns unicast first (datagrams_by_frame rows datagrams)) moments datagrams
      carries =
          subst (λ (ds : List (List ℕ)). CarriesInFrames indexed rows first (units_of_frames rows columns unicast first (datagrams_by_frame rows datagrams)) moments ds)
          (all_in_frames (fits_table rows) datagrams []) (frames_carry (datagrams_by_frame rows datagrams) filled)

      pub are_units : All (IsUnit section_form) (units_of_frames rows columns unicast first (datagrams_by_frame rows datagrams))
      are_units = frames_units (datagrams_by_frame rows datagrams) filled

-- Frames as what is known of them apart.

pub filled_of : (rows : ℕ) (frames : List (List (List ℕ))) → All (λ (frame : List (List ℕ)). 0 < length frame) frames
    → All (λ (frame : List (List ℕ)). length (joined frame) ≤ 191 * rows) frames → All IsGiven (flat_map (λ (frame : List (List ℕ)). frame) frames)
    → AreFilled (fits_table rows) IsGiven frames
filled_of rows [] some fit given = tt
filled_of rows (frame ∷ frames) some fit given = (
  record {
    some = All-head (λ (f : List (List ℕ)). 0 < length f) frame frames some;
    fit = le-leb (length (joined frame)) (191 * rows) (All-head (λ (f : List (List ℕ)). length (joined f) ≤ 191 * rows) frame frames fit);
    each = given_front frame (flat_map (λ (f : List (List ℕ)). f) frames) given;
  },
  filled_of rows frames (All-tail (λ (f : List (List ℕ)). 0 < length f) frame frames some)
      (All-tail (λ (f : List (List ℕ)). length (joined f) ≤ 191 * rows) frame frames fit) (given_rest frame (flat_map (λ (f : List (List ℕ)). f) frames) given),
)
  where
    given_front : (a b : List (List ℕ)) → All IsGiven (a ++ b) → All IsGiven a
    given_front [] b all = All-nil IsGiven
    given_front (d ∷ a) b all = All-cons IsGiven d a (All-head IsGiven d (a ++ b) all) (given_front a b (All-tail IsGiven d (a ++ b) all))

    given_rest : (a b : List (List ℕ)) → All IsGiven (a ++ b) → All IsGiven b
    given_rest [] b all = all
    given_rest (d ∷ a) b all = given_rest a b (All-tail IsGiven d (a ++ b) all)
