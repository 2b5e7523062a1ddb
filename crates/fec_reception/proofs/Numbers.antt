-- Numbers of frames, with one frame more; and that counters of 64 bits hold those of 2^42 frames.
use Rattle.std.proofs.Common.{◌≡◌, inl, inr, ℕ, zero, suc, ◌+◌, ◌*◌, ◌^◌, ◌<◌, ◌≤◌, Bool, true, false, cond, List, [], ◌∷◌, ◌++◌, length, ap, ◌∙◌, arith, length-append, Option, None, Some}
use Rattle.std.specs.Prelude.{◌&&◌, ◌||◌, is_some, is_none}
use Rattle.std.specs.List.{flat_map, count_by, sum_by, range_with_len, list_any}
use Rattle.std.proofs.lemmas.List.Sums.{sum_by-append, sum_by-cons, count_by-le-length}
use Rattle.std.proofs.lemmas.List.FromFn.{length-range_with_len}
use Rattle.std.proofs.lemmas.Grind.{flat_map-append}
use Rattle.wire_spec.specs.Causes.{raised}
use Rattle.wire_spec.specs.Datagram.{front_length}
use Rattle.section_spec.specs.Mpe.{MpeFields, IsRows}
use Rattle.fec_frame_spec.specs.Sections.{FrameSection, TimedSection, sections_of, data_of}
use Rattle.fec_frame_spec.specs.Known.{known_byte}
use Rattle.fec_frame_spec.specs.Corrected.{corrected_byte, corrected_row, lacks_data}
use Rattle.fec_frame_spec.specs.Starts.{known_run, starts_below, is_first_start, tells_end, front_datagram, datagram_from}
use Rattle.fec_frame_spec.specs.Delivered.{frame_datagrams, datagrams_of_frames}
use Rattle.reception_spec.specs.Frames.{FrameNumbers, frame_numbers}
use Rattle.fec_reception.specs.Frames.{mended_in, left_in}
use Rattle.fec_reception.specs.Counting.{counted_frame}

raised_below : (n k : ℕ) → n + k < 2 ^ 64 → raised n k ≡ n + k
raised_below n k few = omega (arith, few)

pub few_rows : (rows : ℕ) → IsRows rows → rows ≤ 1024
few_rows rows (inl is) = omega (arith, is)
few_rows rows (inr (inl is)) = omega (arith, is)
few_rows rows (inr (inr (inl is))) = omega (arith, is)
few_rows rows (inr (inr (inr is))) = omega (arith, is)

-- each place gives a datagram at most
one_front : (run : List ℕ) (n : Option ℕ) → length (front_datagram run n) ≤ 1
one_front run None = omega arith
one_front run (Some n) = omega arith

few_found : (rows : ℕ) (bytes : ℕ → Option ℕ) (places : List ℕ) → length (flat_map (datagram_from rows bytes) places) ≤ length places
few_found rows bytes [] = omega arith
few_found rows bytes (place ∷ places) =
    omega (arith, one_front (known_run rows bytes place) (front_length (known_run rows bytes place)), few_found rows bytes places, length-append (datagram_from rows bytes place) (flat_map (datagram_from rows bytes) places))

few_starts : (rows : ℕ) (bytes : ℕ → Option ℕ) (sections : List MpeFields) (n : ℕ) → length (starts_below rows bytes sections n) ≤ n
unfolding starts_below
few_starts rows bytes sections zero = omega arith
few_starts rows bytes sections (suc n) = by_test (is_first_start sections n || list_any (tells_end rows bytes n) (starts_below rows bytes sections n)) (few_starts rows bytes sections n)
  where
    by_test : (b : Bool) → length (starts_below rows bytes sections n) ≤ n → length (starts_below rows bytes sections n ++ cond b (n ∷ []) []) ≤ suc n
    by_test true few = omega (arith, few, length-append (starts_below rows bytes sections n) (n ∷ []))
    by_test false few = omega (arith, few, length-append {A = ℕ} (starts_below rows bytes sections n) [])

pub few_datagrams : (rows : ℕ) (sections : List FrameSection) → length (frame_datagrams rows sections) ≤ 191 * rows + 1
few_datagrams rows sections =
    let bytes : ℕ → Option ℕ = corrected_byte rows (known_byte rows sections) in
    let places : List ℕ = starts_below rows bytes (data_of sections) (191 * rows + 1) in
    omega (arith, few_found rows bytes places, few_starts rows bytes (data_of sections) (191 * rows + 1))

few_counted : (p : ℕ → Bool) (rows : ℕ) → count_by p (range_with_len 0 rows) ≤ rows
few_counted p rows = omega (arith, count_by-le-length p (range_with_len 0 rows), length-range_with_len 0 rows)

few_sum : (f : List TimedSection → ℕ) → ((g : List TimedSection) → f g ≤ 1024) → (frames : List (List TimedSection)) → sum_by f frames ≤ 1024 * length frames
few_sum f each [] = omega arith
few_sum f each (g ∷ frames) = omega (arith, each g, few_sum f each frames, sum_by-cons f g frames)

few_told : (rows : ℕ) → rows ≤ 1024 → (frames : List (List TimedSection)) → length (datagrams_of_frames rows frames) ≤ 195585 * length frames
few_told rows most [] = omega arith
few_told rows most (g ∷ frames) =
    omega (
      arith,
      few_datagrams rows (sections_of g),
      most,
      few_told rows most frames,
      length-append (frame_datagrams rows (sections_of g)) (datagrams_of_frames rows frames),
    )

pub told-append : (rows : ℕ) (xs ys : List (List TimedSection)) → datagrams_of_frames rows (xs ++ ys) ≡ datagrams_of_frames rows xs ++ datagrams_of_frames rows ys
told-append rows xs ys = flat_map-append (λ (group : List TimedSection). frame_datagrams rows (sections_of group)) xs ys

abbrev numbers_from : ℕ → ℕ → ℕ → ℕ → FrameNumbers
numbers_from f m l d = record { frames = f; rows_mended = m; rows_left = l; datagrams = d }

same_numbers : {f g m n l k d e : ℕ} → f ≡ g → m ≡ n → l ≡ k → d ≡ e → numbers_from f m l d ≡ numbers_from g n k e
same_numbers {f} {g} {m} {n} {l} {k} {d} {e} one two three four =
    ap (λ (x : ℕ). numbers_from x m l d) one ∙ ap (λ (x : ℕ). numbers_from g x l d) two
    ∙ ap (λ (x : ℕ). numbers_from g n x d) three ∙ ap (λ (x : ℕ). numbers_from g n k x) four

-- one frame more
pub frame_counted : (rows : ℕ) (frames : List (List TimedSection)) (group : List TimedSection) → rows ≤ 1024 → length (frames ++ group ∷ []) < 2 ^ 42
    → counted_frame (frame_numbers rows frames) (mended_in rows group) (left_in rows group) (raised 0 (length (frame_datagrams rows (sections_of group))))
    ≡ frame_numbers rows (frames ++ group ∷ [])
frame_counted rows frames group most few = same_numbers count mended left told
  where
    fewer : length frames < 2 ^ 42
    fewer = omega (arith, few, length-append frames (group ∷ []))

    known_of : List TimedSection → ℕ → Option ℕ
    known_of g = known_byte rows (sections_of g)

    mended_low : (g : List TimedSection) → mended_in rows g ≤ 1024
    mended_low g = omega (arith, few_counted (λ r. lacks_data rows (known_of g) r && is_some (corrected_row rows (known_of g) r)) rows, most)

    left_low : (g : List TimedSection) → left_in rows g ≤ 1024
    left_low g = omega (arith, few_counted (λ r. lacks_data rows (known_of g) r && is_none (corrected_row rows (known_of g) r)) rows, most)

    count : raised (length frames) 1 ≡ length (frames ++ group ∷ [])
    count = omega (arith, fewer, length-append frames (group ∷ []))

    summed : (f : List TimedSection → ℕ) → ((g : List TimedSection) → f g ≤ 1024) → raised (sum_by f frames) (f group) ≡ sum_by f (frames ++ group ∷ [])
    summed f low =
        raised_below (sum_by f frames) (f group) (omega (arith, few_sum f low frames, low group, fewer))
        ∙ omega (arith, sum_by-append f frames (group ∷ []))

    mended : raised (sum_by (mended_in rows) frames) (mended_in rows group) ≡ sum_by (mended_in rows) (frames ++ group ∷ [])
    mended = summed (mended_in rows) mended_low

    left : raised (sum_by (left_in rows) frames) (left_in rows group) ≡ sum_by (left_in rows) (frames ++ group ∷ [])
    left = summed (left_in rows) left_low

    d : ℕ
    d = length (frame_datagrams rows (sections_of group))

    low : d ≤ 195585
    low = omega (arith, few_datagrams rows (sections_of group), most)

    before : length (datagrams_of_frames rows frames) ≤ 195585 * length frames
    before = few_told rows most frames

    told : raised (length (datagrams_of_frames rows frames)) (raised 0 d) ≡ length (datagrams_of_frames rows (frames ++ group ∷ []))
    told =
        omega (
          arith,
          low,
          before,
          fewer,
          ap (λ (l : List (List ℕ)). length l) (told-append rows frames (group ∷ [])),
          length-append (datagrams_of_frames rows frames) (datagrams_of_frames rows (group ∷ [])),
          length-append {A = List ℕ} (frame_datagrams rows (sections_of group)) [],
        )
