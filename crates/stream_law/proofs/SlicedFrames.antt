-- The frames of a sliced service, whatever delta_t of their sections is: they are frames, their units are sections and read back.
use Rattle.std.proofs.Common.{◌≡◌, inl, inr, ℕ, zero, suc, ◌+◌, ◌*◌, ◌^◌, ◌<◌, ◌≤◌, List, [], ◌∷◌, ◌++◌, length, map, refl, sym, ap, ap₂, subst, ◌∙◌, arith}
use Rattle.std.specs.Prelude.{flat_map, All}
use Rattle.std.specs.List.{range_with_len}
use Rattle.std.proofs.lemmas.List.{append_assoc, length-map, length_push, get_or_at}
use Rattle.std.proofs.lemmas.List.Elements.{All-head, All-tail}
use Rattle.wire_spec.specs.Bytes.{AreBytes}
use Rattle.wire_spec.specs.Datagram.{IsDatagram}
use Rattle.wire_spec.specs.Lists.{joined}
use Rattle.ts_spec.specs.Form.{IsUnit}
use Rattle.ts_spec.specs.Packetized.{unit_at}
use Rattle.section_spec.specs.Section.{section_form}
use Rattle.section_spec.specs.Mpe.{IsRows}
use Rattle.fec_frame_spec.specs.Sections.{FrameSection, TimedSection, sections_of, timed_section, timed_sections_in, frame_sections_in}
use Rattle.fec_frame_spec.specs.Groups.{all_sections}
use Rattle.fec_frame_spec.specs.Frame.{IsSentFrame, AreSentFrames}
use Rattle.fec_frame_spec.specs.Sender.{frame_of, sections_to_send, section_unit}
use Rattle.fec_frame_spec.specs.Carried.{sections_of_units}
use Rattle.fec_sent_law.specs.Frames.{CanSend, sections_of_frame}
use Rattle.fec_sent_law.proofs.Carried.{timed_from, all_timed}
use Rattle.plan_spec.specs.Bytes.{IsMac}
use Rattle.stream_spec.specs.Units.{mac_for, units_with_delta}
use Rattle.stream_law.proofs.Frames.{AreFramed, IsFrameOf, AreFrames}
use Rattle.stream_law.proofs.FrameLaws.{sendable, of_bytes}
use Rattle.stream_law.proofs.BurstValues.{AreUnits}

-- Sections with the moments of their units.

timed_sections : (moments : ℕ → ℕ) (n : ℕ) (sections : List FrameSection) → sections_of (timed_from moments n sections) ≡ sections
timed_sections moments n [] = refl
timed_sections moments n (s ∷ sections) = ap (λ (l : List FrameSection). s ∷ l) (timed_sections moments (n + 1) sections)

timed_both : (moments : ℕ → ℕ) (n : ℕ) (a b : List FrameSection) → timed_from moments n (a ++ b) ≡ timed_from moments n a ++ timed_from moments (n + length a) b
timed_both moments n [] b = let e : n ≡ n + 0 = omega arith in ap (λ (k : ℕ). timed_from moments k b) e
timed_both moments n (s ∷ a) b =
    let e : n + 1 + length a ≡ n + suc (length a) = omega arith in
    ap (λ (l : List TimedSection). timed_section (moments n) s ∷ l)
    (timed_both moments (n + 1) a b ∙ ap (λ (k : ℕ). timed_from moments (n + 1) a ++ timed_from moments k b) e)

timed_all : (moments : ℕ → ℕ) (n : ℕ) (frames : List (List FrameSection)) → all_sections (all_timed moments n frames) ≡ timed_from moments n (flat_map (λ (f : List FrameSection). f) frames)
timed_all moments n [] = refl
timed_all moments n (frame ∷ frames) =
    ap (λ (l : List TimedSection). timed_from moments n frame ++ l) (timed_all moments (n + length frame) frames)
    ∙ sym (timed_both moments n frame (flat_map (λ (f : List FrameSection). f) frames))

module _ (rows : ℕ) where
  -- each section reads back
  abbrev pub AllRead : List FrameSection → Type 0
  AllRead [] = Unit {0}
  AllRead (s ∷ sections) = (frame_sections_in rows (section_unit s) ≡ s ∷ []) × AllRead sections

  read_both : (a b : List FrameSection) → AllRead a → AllRead b → AllRead (a ++ b)
  read_both [] b are others = others
  read_both (s ∷ a) b are others = (are.0, read_both a b are.1 others)

  read_of_all : (sections : List FrameSection) → All (λ (s : FrameSection). frame_sections_in rows (section_unit s) ≡ s ∷ []) sections → AllRead sections
  read_of_all [] all = tt
  read_of_all (s ∷ sections) all = (
    All-head (λ (t : FrameSection). frame_sections_in rows (section_unit t) ≡ t ∷ []) s sections all,
    read_of_all sections (All-tail (λ (t : FrameSection). frame_sections_in rows (section_unit t) ≡ t ∷ []) s sections all),
  )

  units_from_place : (moments : ℕ → ℕ) (front : List (List ℕ)) (a : ℕ) → length front ≡ a → (sections : List FrameSection) → AllRead sections
      → flat_map (λ (n : ℕ). timed_sections_in rows (moments n) (unit_at (front ++ map section_unit sections) n)) (range_with_len a (length sections)) ≡ timed_from moments a sections
  units_from_place moments front a size [] are = refl
  units_from_place moments front a size (s ∷ sections) are =
      ap₂ (λ (x y : List TimedSection). x ++ y) first
      (rest (units_from_place moments (front ++ section_unit s ∷ []) (a + 1) (length_push front (section_unit s) ∙ ap (λ (n : ℕ). n + 1) size) sections are.1))
    where
      units : List (List ℕ)
      units = front ++ section_unit s ∷ map section_unit sections

      first : timed_sections_in rows (moments a) (unit_at units a) ≡ timed_section (moments a) s ∷ []
      first =
          ap (λ (u : List ℕ). timed_sections_in rows (moments a) u) (get_or_at front (section_unit s) (map section_unit sections) [] a size)
          ∙ ap (λ (l : List FrameSection). map (timed_section (moments a)) l) are.0

      moved : units ≡ (front ++ section_unit s ∷ []) ++ map section_unit sections
      moved = sym (append_assoc front (section_unit s ∷ []) (map section_unit sections))

      timed_of : List (List ℕ) → List TimedSection
      timed_of us = flat_map (λ (n : ℕ). timed_sections_in rows (moments n) (unit_at us n)) (range_with_len (a + 1) (length sections))

      rest : timed_of ((front ++ section_unit s ∷ []) ++ map section_unit sections) ≡ timed_from moments (a + 1) sections → timed_of units ≡ timed_from moments (a + 1) sections
      rest later = ap timed_of moved ∙ later

  units_read : (moments : ℕ → ℕ) (sections : List FrameSection) → AllRead sections → sections_of_units rows (map section_unit sections) moments ≡ timed_from moments 0 sections
  units_read moments sections are =
      ap (λ (n : ℕ). flat_map (λ (i : ℕ). timed_sections_in rows (moments i) (unit_at (map section_unit sections) i)) (range_with_len 0 n)) (length-map sections section_unit)
      ∙ units_from_place moments [] 0 refl sections are

  pub frames_read : (moments : ℕ → ℕ) (frames : List (List FrameSection)) → AllRead (flat_map (λ (f : List FrameSection). f) frames)
      → sections_of_units rows (map section_unit (flat_map (λ (f : List FrameSection). f) frames)) moments ≡ all_sections (all_timed moments 0 frames)
  frames_read moments frames are = units_read moments (flat_map (λ (f : List FrameSection). f) frames) are ∙ sym (timed_all moments 0 frames)

-- all items, as units by their places
units_of_all : (sections : List FrameSection) → All (λ (s : FrameSection). IsUnit section_form (section_unit s)) sections → AreUnits (map section_unit sections)
units_of_all [] all n less = absurd (omega (arith, less))
units_of_all (s ∷ sections) all zero less = All-head (λ (t : FrameSection). IsUnit section_form (section_unit t)) s sections all
units_of_all (s ∷ sections) all (suc n) less =
    units_of_all sections (All-tail (λ (t : FrameSection). IsUnit section_form (section_unit t)) s sections all) n (omega (arith, less))

framed_datagrams : (ds : List (List ℕ)) → AreFramed ds → All IsDatagram ds
framed_datagrams ds are n d less = (sendable ds are n d less).is

module _ (rows columns : ℕ) (unicast : List ℕ) where
  -- sections of these frames, one list for each, whatever delta_t is
  pub record IsOfFrame (frame : List (List ℕ)) (sections : List FrameSection) : Type 0 where
    pub delta : ℕ → ℕ
    pub below : (i : ℕ) → delta i < 2 ^ 12
    pub are : sections ≡ sections_to_send rows (frame_of rows columns frame) (mac_for unicast) delta

  abbrev pub AreOfFrames : List (List (List ℕ)) → List (List FrameSection) → Type 0
  AreOfFrames [] [] = Unit {0}
  AreOfFrames [] (sections ∷ others) = ⊥
  AreOfFrames (frame ∷ frames) [] = ⊥
  AreOfFrames (frame ∷ frames) (sections ∷ others) = IsOfFrame frame sections × AreOfFrames frames others

  pub of_both : (a c : List (List (List ℕ))) (b d : List (List FrameSection)) → AreOfFrames a b → AreOfFrames c d → AreOfFrames (a ++ c) (b ++ d)
  of_both [] c [] d first second = second
  of_both [] c (s ∷ b) d first second = absurd first
  of_both (f ∷ a) c [] d first second = absurd first
  of_both (f ∷ a) c (s ∷ b) d first second = (first.0, of_both a c b d first.1 second)

-- with what holds of rows and columns
module _ (rows columns : ℕ) (is_rows : IsRows rows) (least : 1 ≤ columns) (most : columns ≤ 64) (unicast : List ℕ) (is_mac : IsMac unicast) where
  can_send : (frame : List (List ℕ)) → IsFrameOf rows frame → CanSend rows columns unicast frame
  can_send frame is = record {
    rows_are = is_rows;
    columns_least = least;
    columns_most = most;
    unicast_bytes = is_mac.bytes;
    unicast_size = is_mac.size;
    sendable = sendable frame is.each;
    bytes = of_bytes frame is.each;
  }

-- with the laws of frames
module _ (is_unit : (rows columns : ℕ) (unicast : List ℕ) (delta : ℕ → ℕ) (datagrams : List (List ℕ)) → CanSend rows columns unicast datagrams
    → 0 < length datagrams → length (joined datagrams) ≤ 191 * rows → ((i : ℕ) → delta i < 2 ^ 12)
    → All (λ (s : FrameSection). IsUnit section_form (section_unit s)) (sections_of_frame rows columns unicast delta datagrams))
    (rows columns : ℕ) (is_rows : IsRows rows) (least : 1 ≤ columns) (most : columns ≤ 64) (unicast : List ℕ) (is_mac : IsMac unicast) where
  pub fec_units : (delta : ℕ → ℕ) (frame : List (List ℕ)) → IsFrameOf rows frame → ((i : ℕ) → delta i < 2 ^ 12) → AreUnits (units_with_delta rows columns unicast delta frame)
  unfolding sections_of_frame
  fec_units delta frame is below =
      units_of_all (sections_to_send rows (frame_of rows columns frame) (mac_for unicast) delta) (is_unit rows columns unicast delta frame (can_send rows columns is_rows least most unicast is_mac frame is) is.some is.fits below)

module _ (is_read : (rows columns : ℕ) (unicast : List ℕ) (delta : ℕ → ℕ) (datagrams : List (List ℕ)) → CanSend rows columns unicast datagrams
    → 0 < length datagrams → length (joined datagrams) ≤ 191 * rows → ((i : ℕ) → delta i < 2 ^ 12)
    → All (λ (s : FrameSection). frame_sections_in rows (section_unit s) ≡ s ∷ []) (sections_of_frame rows columns unicast delta datagrams))
    (rows columns : ℕ) (is_rows : IsRows rows) (least : 1 ≤ columns) (most : columns ≤ 64) (unicast : List ℕ) (is_mac : IsMac unicast) where
  frame_reads : (delta : ℕ → ℕ) (frame : List (List ℕ)) → IsFrameOf rows frame → ((i : ℕ) → delta i < 2 ^ 12)
      → AllRead rows (sections_to_send rows (frame_of rows columns frame) (mac_for unicast) delta)
  unfolding sections_of_frame
  frame_reads delta frame is below =
      read_of_all rows (sections_to_send rows (frame_of rows columns frame) (mac_for unicast) delta) (is_read rows columns unicast delta frame (can_send rows columns is_rows least most unicast is_mac frame is) is.some is.fits below)

  pub all_read : (frames : List (List (List ℕ))) (sections : List (List FrameSection)) → AreFrames rows frames → AreOfFrames rows columns unicast frames sections
      → AllRead rows (flat_map (λ (f : List FrameSection). f) sections)
  all_read [] [] are of = tt
  all_read [] (s ∷ sections) are of = absurd of
  all_read (f ∷ frames) [] are of = absurd of
  all_read (f ∷ frames) (s ∷ sections) are of =
      read_both rows s (flat_map (λ (g : List FrameSection). g) sections)
      (subst (AllRead rows) (sym of.0.are) (frame_reads of.0.delta f are.0 of.0.below)) (all_read frames sections are.1 of.1)

module _ (is_sent : (rows columns : ℕ) (unicast : List ℕ) (delta : ℕ → ℕ) (datagrams : List (List ℕ)) → 0 < rows → 1 ≤ columns → columns ≤ 64
    → 0 < length datagrams → All IsDatagram datagrams → All AreBytes datagrams → length (joined datagrams) ≤ 191 * rows
    → IsSentFrame rows (frame_of rows columns datagrams) (sections_of_frame rows columns unicast delta datagrams))
    (rows columns : ℕ) (is_rows : IsRows rows) (least : 1 ≤ columns) (most : columns ≤ 64) (unicast : List ℕ) (is_mac : IsMac unicast) where
  some_rows : 0 < rows
  some_rows = by_rows is_rows
    where
      by_rows : IsRows rows → 0 < rows
      by_rows (inl e) = omega (arith, e)
      by_rows (inr (inl e)) = omega (arith, e)
      by_rows (inr (inr (inl e))) = omega (arith, e)
      by_rows (inr (inr (inr e))) = omega (arith, e)

  frame_is_sent : (delta : ℕ → ℕ) (frame : List (List ℕ)) → IsFrameOf rows frame
      → IsSentFrame rows (frame_of rows columns frame) (sections_to_send rows (frame_of rows columns frame) (mac_for unicast) delta)
  unfolding sections_of_frame
  frame_is_sent delta frame is =
      is_sent rows columns unicast delta frame some_rows least most is.some (framed_datagrams frame is.each) (of_bytes frame is.each) is.fits

  pub all_sent : (moments : ℕ → ℕ) (n : ℕ) (frames : List (List (List ℕ))) (sections : List (List FrameSection)) → AreFrames rows frames → AreOfFrames rows columns unicast frames sections
      → AreSentFrames rows (map (frame_of rows columns) frames) (all_timed moments n sections)
  all_sent moments n [] [] are of = tt
  all_sent moments n [] (s ∷ sections) are of = absurd of
  all_sent moments n (f ∷ frames) [] are of = absurd of
  all_sent moments n (f ∷ frames) (s ∷ sections) are of = (
    subst (IsSentFrame rows (frame_of rows columns f)) (sym (timed_sections moments n s ∙ of.0.are)) (frame_is_sent of.0.delta f are.0),
    all_sent moments (n + length s) frames sections are.1 of.1,
  )
