-- Numbers that no counter of 64 bits reaches are summed as they are.
use Rattle.std.proofs.Common.{◌≡◌, ℕ, ◌+◌, ◌*◌, ◌^◌, ◌≤◌, ap, ap₂, ◌∙◌, arith}
use Rattle.wire_spec.specs.Causes.{raised}
use Rattle.reception_spec.specs.Numbers.{PidNumbers, UnitNumbers}
use Rattle.reception_spec.specs.Sums.{sum_of_numbers}
use Rattle.reception_spec.specs.Frames.{FrameNumbers, sum_of_frames}
use Rattle.reception_law.specs.Sums.{sum_of_units, AreAtMost, UnitsAreAtMost, FramesAreAtMost}
use Rattle.service_counts.specs.declared.counts.ServiceCounts.{ServiceCounts}
use Rattle.service_counts.specs.Sums.{raised_counts}
use Rattle.service_reception.specs.Counting.{service_counts_of}

-- the sums of counters, part by part
abbrev raised_numbers : PidNumbers → PidNumbers → PidNumbers
raised_numbers a b = record {
  heard = raised a.heard b.heard;
  repeats = raised a.repeats b.repeats;
  gaps = raised a.gaps b.gaps;
  units = raised a.units b.units;
  bad_check = raised a.bad_check b.bad_check;
  delimited = raised a.delimited b.delimited;
  bad_length = raised a.bad_length b.bad_length;
}

abbrev raised_units : UnitNumbers → UnitNumbers → UnitNumbers
raised_units a b = record { unread = raised a.unread b.unread; filtered = raised a.filtered b.filtered; datagrams = raised a.datagrams b.datagrams }

abbrev raised_frames : FrameNumbers → FrameNumbers → FrameNumbers
raised_frames a b = record {
  frames = raised a.frames b.frames;
  rows_mended = raised a.rows_mended b.rows_mended;
  rows_left = raised a.rows_left b.rows_left;
  datagrams = raised a.datagrams b.datagrams;
}

below : (a b n : ℕ) → a ≤ 2 ^ 45 → b ≤ 189 * n → n ≤ 2 ^ 32 → raised a b ≡ a + b
below a b n few_a few_b few = omega (arith, few_a, few_b, few)

abbrev numbers : ℕ → ℕ → ℕ → ℕ → ℕ → ℕ → ℕ → PidNumbers
numbers h r g u b d l = record { heard = h; repeats = r; gaps = g; units = u; bad_check = b; delimited = d; bad_length = l }

same_numbers : {h i r s g k u v b c d e l m : ℕ} → h ≡ i → r ≡ s → g ≡ k → u ≡ v → b ≡ c → d ≡ e → l ≡ m → numbers h r g u b d l ≡ numbers i s k v c e m
same_numbers {h} {i} {r} {s} {g} {k} {u} {v} {b} {c} {d} {e} {l} {m} one two three four five six seven =
    ap (λ (x : ℕ). numbers x r g u b d l) one ∙ ap (λ (x : ℕ). numbers i x g u b d l) two ∙ ap (λ (x : ℕ). numbers i s x u b d l) three
    ∙ ap (λ (x : ℕ). numbers i s k x b d l) four ∙ ap (λ (x : ℕ). numbers i s k v x d l) five ∙ ap (λ (x : ℕ). numbers i s k v c x l) six
    ∙ ap (λ (x : ℕ). numbers i s k v c e x) seven

numbers_summed : (a b : PidNumbers) (n : ℕ) → AreAtMost (2 ^ 45) a → AreAtMost (189 * n) b → n ≤ 2 ^ 32 → raised_numbers a b ≡ sum_of_numbers a b
numbers_summed a b n most_a most_b few = same_numbers
    (below a.heard b.heard n most_a.heard most_b.heard few)
    (below a.repeats b.repeats n most_a.repeats most_b.repeats few)
    (below a.gaps b.gaps n most_a.gaps most_b.gaps few)
    (below a.units b.units n most_a.units most_b.units few)
    (below a.bad_check b.bad_check n most_a.bad_check most_b.bad_check few)
    (below a.delimited b.delimited n most_a.delimited most_b.delimited few)
    (below a.bad_length b.bad_length n most_a.bad_length most_b.bad_length few)

abbrev units_from : ℕ → ℕ → ℕ → UnitNumbers
units_from u f d = record { unread = u; filtered = f; datagrams = d }

units_summed : (a b : UnitNumbers) (n : ℕ) → UnitsAreAtMost (2 ^ 45) a → UnitsAreAtMost (189 * n) b → n ≤ 2 ^ 32 → raised_units a b ≡ sum_of_units a b
units_summed a b n most_a most_b few =
    ap (λ (x : ℕ). units_from x (raised a.filtered b.filtered) (raised a.datagrams b.datagrams)) (below a.unread b.unread n most_a.unread most_b.unread few)
    ∙ ap (λ (x : ℕ). units_from (a.unread + b.unread) x (raised a.datagrams b.datagrams)) (below a.filtered b.filtered n most_a.filtered most_b.filtered few)
    ∙ ap (λ (x : ℕ). units_from (a.unread + b.unread) (a.filtered + b.filtered) x) (below a.datagrams b.datagrams n most_a.datagrams most_b.datagrams few)

below_frames : (a b n : ℕ) → a ≤ 2 ^ 63 → b ≤ 36965565 * n → n ≤ 2 ^ 32 → raised a b ≡ a + b
below_frames a b n few_a few_b few = omega (arith, few_a, few_b, few)

abbrev frames_from : ℕ → ℕ → ℕ → ℕ → FrameNumbers
frames_from f m l d = record { frames = f; rows_mended = m; rows_left = l; datagrams = d }

frames_summed : (a b : FrameNumbers) (n : ℕ) → FramesAreAtMost (2 ^ 63) a → FramesAreAtMost (36965565 * n) b → n ≤ 2 ^ 32 → raised_frames a b ≡ sum_of_frames a b
frames_summed a b n most_a most_b few =
    ap (λ (x : ℕ). frames_from x (raised a.rows_mended b.rows_mended) (raised a.rows_left b.rows_left) (raised a.datagrams b.datagrams)) (below_frames a.frames b.frames n most_a.frames most_b.frames few)
    ∙ ap (λ (x : ℕ). frames_from (a.frames + b.frames) x (raised a.rows_left b.rows_left) (raised a.datagrams b.datagrams)) (below_frames a.rows_mended b.rows_mended n most_a.rows_mended most_b.rows_mended few)
    ∙ ap (λ (x : ℕ). frames_from (a.frames + b.frames) (a.rows_mended + b.rows_mended) x (raised a.datagrams b.datagrams)) (below_frames a.rows_left b.rows_left n most_a.rows_left most_b.rows_left few)
    ∙ ap (λ (x : ℕ). frames_from (a.frames + b.frames) (a.rows_mended + b.rows_mended) (a.rows_left + b.rows_left) x) (below_frames a.datagrams b.datagrams n most_a.datagrams most_b.datagrams few)

-- All numbers of a service.

pub same_counts : {n m : PidNumbers} {u v : UnitNumbers} {f g : FrameNumbers} → n ≡ m → u ≡ v → f ≡ g → service_counts_of n u f ≡ service_counts_of m v g
same_counts {n} {m} {u} {v} {f} {g} same_n same_u same_f =
    ap₂ (λ (x : PidNumbers) (y : UnitNumbers). service_counts_of x y f) same_n same_u ∙ ap (λ (x : FrameNumbers). service_counts_of m v x) same_f

abbrev counts_with : PidNumbers → UnitNumbers → FrameNumbers → ℕ → ServiceCounts
counts_with on_pid of_units of_frames datagrams = record (service_counts_of on_pid of_units of_frames) { datagrams = datagrams }

all_counts : {n m : PidNumbers} {u v : UnitNumbers} {f g : FrameNumbers} {d : ℕ} → n ≡ m → u ≡ v → f ≡ g → d ≡ v.datagrams + g.datagrams → counts_with n u f d ≡ service_counts_of m v g
all_counts {n} {m} {u} {v} {f} {g} {d} same_n same_u same_f same_d =
    ap₂ (λ (x : PidNumbers) (y : UnitNumbers). counts_with x y f d) same_n same_u ∙ ap₂ (λ (x : FrameNumbers) (y : ℕ). counts_with m v x y) same_f same_d

-- datagrams of units by themselves, and of frames
all_datagrams : (a b c d n : ℕ) → a ≤ 2 ^ 45 → b ≤ 2 ^ 63 → c ≤ 189 * n → d ≤ 36965565 * n → n ≤ 2 ^ 32 → raised (a + b) (c + d) ≡ (a + c) + (b + d)
all_datagrams a b c d n few_a few_b few_c few_d few = omega (arith, few_a, few_b, few_c, few_d, few)

pub counts_summed : (a b : PidNumbers) (u v : UnitNumbers) (f g : FrameNumbers) (n : ℕ) → AreAtMost (2 ^ 45) a → AreAtMost (189 * n) b → UnitsAreAtMost (2 ^ 45) u → UnitsAreAtMost (189 * n) v
    → FramesAreAtMost (2 ^ 63) f → FramesAreAtMost (36965565 * n) g → n ≤ 2 ^ 32
    → raised_counts (service_counts_of a u f) (service_counts_of b v g) ≡ service_counts_of (sum_of_numbers a b) (sum_of_units u v) (sum_of_frames f g)
counts_summed a b u v f g n most_a most_b most_u most_v most_f most_g few = all_counts
    (numbers_summed a b n most_a most_b few)
    (units_summed u v n most_u most_v few)
    (frames_summed f g n most_f most_g few)
    (all_datagrams u.datagrams f.datagrams v.datagrams g.datagrams n most_u.datagrams most_f.datagrams most_v.datagrams most_g.datagrams few)
