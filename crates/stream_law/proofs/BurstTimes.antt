-- The sections of bursts: their units, and their times.
use Rattle.std.proofs.Common.{◌≡◌, ℕ, zero, suc, ◌+◌, ◌*◌, ◌<◌, Bool, true, false, not, ◌&&◌, cond, eqb, get_or, List, [], ◌∷◌, ◌++◌, length, map, refl, sym, ap, ap₂, subst, ◌∙◌, arith}
use Rattle.std.specs.Prelude.{flat_map}
use Rattle.std.specs.List.{range_with_len}
use Rattle.std.proofs.lemmas.List.{length-append, length-map, map-append, get_or_append_left, get_or-append-add}
use Rattle.std.proofs.lemmas.List.FromFn.{length-map-range_with_len}
use Rattle.std.proofs.Math.Nat.{add-mul}
use Rattle.slice_spec.specs.Moments.{ten, moment_of}
use Rattle.slice_spec.specs.Sections.{SectionTime, tens_between}
use Rattle.slice_spec.specs.Bursts.{Slicing, moment_in, delta_to_next, time_in, times_of as times_of_bursts}
use Rattle.slice_law.specs.Cycles.{bursts_from}
use Rattle.fec_frame_spec.specs.Sections.{FrameSection, data_section, parity_section, real_time_in, TimedSection, times_of}
use Rattle.fec_frame_spec.specs.Frame.{FrameFields}
use Rattle.fec_frame_spec.specs.Sender.{frame_of, section_of_datagram, section_of_column, sections_to_send, section_unit}
use Rattle.fec_sent_law.proofs.Carried.{timed_from, all_timed}
use Rattle.plan_spec.specs.Plan.{WindowFields}
use Rattle.stream_spec.specs.Units.{FrameSchedule, mac_for, sized_units, packet_of_section, burst_moment, delta_after, units_by_burst}
use Rattle.stream_law.proofs.BurstValues.{item_at, length-sections, section_moments, all_section_moments}

-- from a number on, moments are those of a list
abbrev pub Agree : (ℕ → ℕ) → ℕ → List ℕ → Type 0
Agree moments n list = (i : ℕ) → i < length list → moments (n + i) ≡ get_or list i 0

pub agree_front : (moments : ℕ → ℕ) (n : ℕ) (a b : List ℕ) → Agree moments n (a ++ b) → Agree moments n a
agree_front moments n a b agree i less = agree i (omega (arith, less, length-append a b)) ∙ get_or_append_left a b 0 i less

pub agree_rest : (moments : ℕ → ℕ) (n : ℕ) (a b : List ℕ) → Agree moments n (a ++ b) → Agree moments (n + length a) b
agree_rest moments n a b agree i less =
    let place : n + length a + i ≡ n + (length a + i) = omega arith in
    ap moments place ∙ agree (length a + i) (omega (arith, less, length-append a b)) ∙ get_or-append-add a b i 0

-- each section, from a number on, has its delta_t
abbrev pub HaveDeltas : (ℕ → ℕ) → ℕ → List FrameSection → Type 0
HaveDeltas delta i [] = Unit {0}
HaveDeltas delta i (s ∷ sections) = ((real_time_in s).delta ≡ delta i) × HaveDeltas delta (i + 1) sections

deltas_both : (delta : ℕ → ℕ) (i : ℕ) (a b : List FrameSection) → HaveDeltas delta i a → HaveDeltas delta (i + length a) b → HaveDeltas delta i (a ++ b)
deltas_both delta i [] b first second = let same : i + 0 ≡ i = omega arith in subst (λ (m : ℕ). HaveDeltas delta m b) same second
deltas_both delta i (s ∷ a) b first second = (first.0, deltas_both delta (i + 1) a b first.1 (next second))
  where
    next : HaveDeltas delta (i + suc (length a)) b → HaveDeltas delta (i + 1 + length a) b
    next it = let same : i + suc (length a) ≡ i + 1 + length a = omega arith in subst (λ (m : ℕ). HaveDeltas delta m b) same it

module _ (rows : ℕ) (frame : FrameFields) (mac : List ℕ → List ℕ) (delta : ℕ → ℕ) where
  data_deltas : (n a : ℕ) → HaveDeltas delta a (map (λ i. data_section (section_of_datagram frame mac delta i)) (range_with_len a n))
  data_deltas zero a = tt
  data_deltas (suc n) a = (refl, data_deltas n (a + 1))

  column_deltas : (n b i : ℕ) → i ≡ length frame.datagrams + b → HaveDeltas delta i (map (λ k. parity_section (section_of_column rows frame delta k)) (range_with_len b n))
  column_deltas zero b i e = tt
  column_deltas (suc n) b i e = (ap delta (sym e), column_deltas n (b + 1) (i + 1) (omega (arith, e)))

  pub deltas_are : HaveDeltas delta 0 (sections_to_send rows frame mac delta)
  deltas_are =
      deltas_both delta 0 (map (λ i. data_section (section_of_datagram frame mac delta i)) (range_with_len 0 (length frame.datagrams)))
      (map (λ k. parity_section (section_of_column rows frame delta k)) (range_with_len 0 frame.columns))
      (data_deltas (length frame.datagrams) 0)
      (column_deltas frame.columns 0 (0 + length (map (λ i. data_section (section_of_datagram frame mac delta i)) (range_with_len 0 (length frame.datagrams))))
      (omega (arith, length-map-range_with_len (λ i. data_section (section_of_datagram frame mac delta i)) 0 (length frame.datagrams))))

-- the times of sections
times_from : (moments delta moment : ℕ → ℕ) (n i : ℕ) (sections : List FrameSection) → HaveDeltas delta i sections
    → ((j : ℕ) → j < length sections → moments (n + j) ≡ moment (i + j))
    → times_of (timed_from moments n sections) ≡ map (λ j. record { moment = moment j; delta = delta j }) (range_with_len i (length sections))
times_from moments delta moment n i [] deltas agree = refl
times_from moments delta moment n i (s ∷ sections) deltas agree =
    ap₂ (λ (t : SectionTime) (l : List SectionTime). t ∷ l) (ap₂ time first deltas.0)
    (times_from moments delta moment (n + 1) (i + 1) sections deltas.1 (λ j less. later j less))
  where
    time : ℕ → ℕ → SectionTime
    time m d = record { moment = m; delta = d }

    first : moments n ≡ moment i
    first =
        let a : n ≡ n + 0 = omega arith in
        let b : i + 0 ≡ i = omega arith in
        ap moments a ∙ agree 0 (omega arith) ∙ ap moment b

    later : (j : ℕ) → j < length sections → moments (n + 1 + j) ≡ moment (i + 1 + j)
    later j less =
        let a : n + 1 + j ≡ n + suc j = omega arith in
        let b : i + suc j ≡ i + 1 + j = omega arith in
        ap moments a ∙ agree (suc j) (omega (arith, less)) ∙ ap moment b

pub timed_count : (moments : ℕ → ℕ) (n : ℕ) (a b : List (List FrameSection))
    → all_timed moments n (a ++ b) ≡ all_timed moments n a ++ all_timed moments (n + length (flat_map (λ (f : List FrameSection). f) a)) b
timed_count moments n [] b = let same : n ≡ n + 0 = omega arith in ap (λ (k : ℕ). all_timed moments k b) same
timed_count moments n (f ∷ a) b =
    let same : n + length f + length (flat_map (λ (g : List FrameSection). g) a) ≡ n + length (f ++ flat_map (λ (g : List FrameSection). g) a)
    = omega (arith, length-append f (flat_map (λ (g : List FrameSection). g) a)) in
    ap (λ (l : List (List TimedSection)). timed_from moments n f ∷ l)
    (timed_count moments (n + length f) a b ∙ ap (λ (k : ℕ). all_timed moments (n + length f) a ++ all_timed moments k b) same)

module _ (rows columns : ℕ) (unicast : List ℕ) (schedule : FrameSchedule) (window : WindowFields) where
  abbrev pub slicing : Slicing
  slicing = record { form = schedule.form; rate = schedule.rate; cycle = schedule.cycle; start = window.start; length = window.length }

  abbrev delta_of : Bool → ℕ → List (List ℕ) → ℕ → ℕ
  delta_of is_last c frame i = cond is_last 0 (delta_after schedule window c (packet_of_section rows columns frame i))

  -- the sections of the burst in a cycle, and of all bursts
  abbrev pub sections_of_burst : Bool → ℕ → List (List ℕ) → List FrameSection
  sections_of_burst is_last c frame =
      sections_to_send rows (frame_of rows columns frame) (mac_for unicast) (λ i. cond is_last 0 (delta_after schedule window c (packet_of_section rows columns frame i)))

  abbrev pub sections_by_burst : ℕ → List (List (List ℕ)) → List (List FrameSection)
  sections_by_burst c [] = []
  sections_by_burst c (frame ∷ frames) = sections_of_burst (not schedule.goes_on && eqb (length frames) 0) c frame ∷ sections_by_burst (c + 1) frames

  pub units_are_sections : (c : ℕ) (frames : List (List (List ℕ)))
      → flat_map (λ (burst : List (List ℕ)). burst) (units_by_burst rows columns unicast schedule window c frames) ≡ map section_unit (flat_map (λ (f : List FrameSection). f) (sections_by_burst c frames))
  units_are_sections c [] = refl
  units_are_sections c (frame ∷ frames) =
      ap (λ (l : List (List ℕ)). map section_unit first ++ l) (units_are_sections (c + 1) frames)
      ∙ sym (map-append section_unit first (flat_map (λ (f : List FrameSection). f) (sections_by_burst (c + 1) frames)))
    where
      first : List FrameSection
      first = sections_of_burst (not schedule.goes_on && eqb (length frames) 0) c frame

  pub length-burst : (is_last : Bool) (c : ℕ) (frame : List (List ℕ)) → length (sections_of_burst is_last c frame) ≡ length (sized_units rows columns frame)
  length-burst is_last c frame =
      sym (length-map (sections_of_burst is_last c frame) section_unit) ∙ length-sections rows columns unicast (delta_of is_last c frame) frame

  pub length-all : (c : ℕ) (frames : List (List (List ℕ)))
      → length (flat_map (λ (f : List FrameSection). f) (sections_by_burst c frames)) ≡ length (all_section_moments rows columns schedule window c frames)
  length-all c [] = refl
  length-all c (frame ∷ frames) =
      omega (
        arith,
        length-append (sections_of_burst (not schedule.goes_on && eqb (length frames) 0) c frame) (flat_map (λ (f : List FrameSection). f) (sections_by_burst (c + 1) frames)),
        length-append (section_moments rows columns schedule window c frame) (all_section_moments rows columns schedule window (c + 1) frames),
        length-burst (not schedule.goes_on && eqb (length frames) 0) c frame,
        length-map-range_with_len (λ i. burst_moment schedule window c (packet_of_section rows columns frame i)) 0 (length (sized_units rows columns frame)),
        length-all (c + 1) frames,
      )

  -- the bursts in the cycles of the stream, where so many whole cycles come before the part
  abbrev pub places_of : List (List ℕ) → List ℕ
  places_of frame = map (λ i. packet_of_section rows columns frame i) (range_with_len 0 (length (sized_units rows columns frame)))

  pub length-bursts : (c : ℕ) (frames : List (List (List ℕ))) → length (bursts_from c (map places_of frames)) ≡ length frames
  length-bursts c [] = refl
  length-bursts c (frame ∷ frames) = ap suc (length-bursts (c + 1) frames)

  module _ (cycles : ℕ) (before : schedule.slots_before ≡ cycles * schedule.cycle) where
    moment_is : (c n : ℕ) → burst_moment schedule window c n ≡ moment_in slicing (cycles + c) n
    moment_is c n =
        ap (λ (s : ℕ). moment_of schedule.form schedule.rate s) (omega (arith, before, add-mul cycles c schedule.cycle))

    pub delta_is : (c n : ℕ) → delta_after schedule window c n ≡ delta_to_next slicing (cycles + c) n
    delta_is c n =
        let next : cycles + (c + 1) ≡ cycles + c + 1 = omega arith in
        ap₂ (λ (a b : ℕ). tens_between a b (ten schedule.form)) (moment_is c n)
        (moment_is (c + 1) 0 ∙ ap (λ (i : ℕ). moment_in slicing i 0) next)

    -- one burst
    burst_times : (moments : ℕ → ℕ) (n : ℕ) (is_last : Bool) (c : ℕ) (frame : List (List ℕ)) → Agree moments n (section_moments rows columns schedule window c frame)
        → times_of (timed_from moments n (sections_of_burst is_last c frame)) ≡ map (time_in slicing is_last (cycles + c)) (places_of frame)
    burst_times moments n is_last c frame agree =
        times_from moments (delta_of is_last c frame) (λ i. burst_moment schedule window c (packet_of_section rows columns frame i)) n 0 (sections_of_burst is_last c frame)
        (deltas_are rows (frame_of rows columns frame) (mac_for unicast) (delta_of is_last c frame)) at_each
        ∙ ap (λ (m : ℕ). map (λ j. time (burst_moment schedule window c (packet_of_section rows columns frame j)) (delta_of is_last c frame j)) (range_with_len 0 m)) (length-burst is_last c frame)
        ∙ same_times (range_with_len 0 (length (sized_units rows columns frame)))
      where
        time : ℕ → ℕ → SectionTime
        time m d = record { moment = m; delta = d }

        count : length (section_moments rows columns schedule window c frame) ≡ length (sized_units rows columns frame)
        count = length-map-range_with_len (λ i. burst_moment schedule window c (packet_of_section rows columns frame i)) 0 (length (sized_units rows columns frame))

        at_each : (j : ℕ) → j < length (sections_of_burst is_last c frame) → moments (n + j) ≡ burst_moment schedule window c (packet_of_section rows columns frame (0 + j))
        at_each j less =
            agree j (omega (arith, less, count, length-burst is_last c frame))
            ∙ item_at (λ i. burst_moment schedule window c (packet_of_section rows columns frame i)) 0 (length (sized_units rows columns frame)) j
            (omega (arith, less, length-burst is_last c frame))

        delta_same : (last : Bool) (m : ℕ) → cond last 0 (delta_after schedule window c m) ≡ cond last 0 (delta_to_next slicing (cycles + c) m)
        delta_same true m = refl
        delta_same false m = delta_is c m

        same_times : (is : List ℕ) → map (λ j. time (burst_moment schedule window c (packet_of_section rows columns frame j)) (delta_of is_last c frame j)) is
            ≡ map (time_in slicing is_last (cycles + c)) (map (λ i. packet_of_section rows columns frame i) is)
        same_times [] = refl
        same_times (j ∷ is) =
            ap₂ (λ (t : SectionTime) (l : List SectionTime). t ∷ l)
            (ap₂ time (moment_is c (packet_of_section rows columns frame j)) (delta_same is_last (packet_of_section rows columns frame j))) (same_times is)

    -- all bursts of the part
    pub part_times : (moments : ℕ → ℕ) (frames : List (List (List ℕ))) (n c : ℕ) → Agree moments n (all_section_moments rows columns schedule window c frames)
        → map times_of (all_timed moments n (sections_by_burst c frames)) ≡ times_of_bursts slicing schedule.goes_on (bursts_from (cycles + c) (map places_of frames))
    part_times moments [] n c agree = refl
    part_times moments (frame ∷ frames) n c agree =
        ap₂ (λ (t : List SectionTime) (l : List (List SectionTime)). t ∷ l)
        (burst_times moments n (not schedule.goes_on && eqb (length frames) 0) c frame
        (agree_front moments n first rest agree)
        ∙ ap (λ (m : ℕ). map (time_in slicing (not schedule.goes_on && eqb m 0) (cycles + c)) (places_of frame)) (sym (length-bursts (cycles + c + 1) frames)))
        (ap (λ (m : ℕ). map times_of (all_timed moments m (sections_by_burst (c + 1) frames))) count
        ∙ part_times moments frames (n + length first) (c + 1) (agree_rest moments n first rest agree)
        ∙ ap (λ (i : ℕ). times_of_bursts slicing schedule.goes_on (bursts_from i (map places_of frames))) next)
      where
        first : List ℕ
        first = section_moments rows columns schedule window c frame

        rest : List ℕ
        rest = all_section_moments rows columns schedule window (c + 1) frames

        next : cycles + (c + 1) ≡ cycles + c + 1
        next = omega arith

        count : n + length (sections_of_burst (not schedule.goes_on && eqb (length frames) 0) c frame) ≡ n + length (section_moments rows columns schedule window c frame)
        count =
            omega (
              arith,
              length-burst (not schedule.goes_on && eqb (length frames) 0) c frame,
              length-map-range_with_len (λ i. burst_moment schedule window c (packet_of_section rows columns frame i)) 0 (length (sized_units rows columns frame)),
            )
