use Rattle.std.proofs.Common.{◌≡◌, ℕ, zero, suc, ◌+◌, List, [], ◌∷◌, ◌++◌, drop, sym, ap, ◌∙◌, arith, append_assoc, refl, Option, Some, None}
use Rattle.std.specs.Prelude.{slice_get}
use Rattle.std.specs.List.{cons_option}
use Rattle.std.proofs.lemmas.List.{length-map}
use Rattle.plan_spec.specs.Plan.{KindFields, ServiceFields, kinds, sliced_of}
use Rattle.plan.specs.Parts.{service_seen, kind_seen}
use Rattle.plan.specs.PlanView.{plan_fields}
use Rattle.slice_spec.specs.Windows.{OwnedWindow}
use Rattle.stream_spec.specs.Windows.{owned, windows_from}
use Rattle.stream_law.proofs.Plans.{few_services}
use Rattle.time_slice.specs.Views.{windows_in}
use Rattle.ts_mux.proofs.Items.{map_at}
use Rattle.ts_mux.proofs.services.windows_of.Goals as goal

-- the windows from one service on and from the next
next_windows : (ks : List KindFields) (i k : ℕ) (kind : KindFields) → slice_get ks k ≡ Some kind → drop k ks ≡ kind ∷ drop (k + 1) ks
next_windows [] i k kind e = absurd (cc)
next_windows (x ∷ ks) i zero kind e = cc
next_windows (x ∷ ks) i (suc k) kind e = let next : suc k + 1 ≡ suc (k + 1) = omega arith in next_windows ks i k kind e ∙ ap (λ (n : ℕ). kind ∷ drop n (x ∷ ks)) (sym next)

one_more : (k : ℕ) (kind : KindFields) (rest : List KindFields) → windows_from k (kind ∷ rest) ≡ windows_from k (kind ∷ []) ++ windows_from (k + 1) rest
one_more k kind rest = by_window (owned k (sliced_of kind))
  where
    by_window : (o : Option OwnedWindow) → cons_option o (windows_from (k + 1) rest) ≡ cons_option o [] ++ windows_from (k + 1) rest
    by_window None = refl
    by_window (Some w) = refl

pub overflow_cast-k : goal.overflow_cast-k
overflow_cast-k c = omega (arith, few_services (plan_fields c.args.plan.now) c.args.plan.now.valid, c.loop-k-test.true, c.len-k-end.ensures.read, length-map c.args.plan.now.services service_seen)

pub loop-k-preserved : goal.loop-k-preserved
loop-k-preserved c =
    let ks : List KindFields = kinds (plan_fields c.args.plan.now) in
    let k : ℕ = c.loop-k.k in
    let kind : KindFields = kind_seen (c.at.result.now).kind in
    let found : slice_get ks k ≡ Some kind
    = map_at (λ (s : ServiceFields). s.kind) (plan_fields c.args.plan.now).services k (service_seen c.at.result.now) (map_at service_seen c.args.plan.now.services k c.at.result.now c.at.ensures.read) in
    ap (λ (ws : List OwnedWindow). ws ++ windows_from (k + 1) (drop (k + 1) ks)) c.in_ok-put_window.ensures.added
    ∙ append_assoc (windows_in c.loop-k.windows.items) (windows_from k (kind ∷ [])) (windows_from (k + 1) (drop (k + 1) ks))
    ∙ ap (λ (ws : List OwnedWindow). windows_in c.loop-k.windows.items ++ ws) (sym (ap (windows_from k) (next_windows ks 0 k kind found) ∙ one_more k kind (drop (k + 1) ks)))
    ∙ c.loop-k.invariant
