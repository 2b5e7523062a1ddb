-- A text spells one rule at most, and settings give one plan.
use Rattle.std.proofs.Common.{◌≡◌, ◌⊎◌, inl, inr, ⊎_elim, ℕ, ◌+◌, ◌-◌, ◌*◌, ◌<◌, ◌≤◌, false, eqb, List, [], ◌∷◌, ◌++◌, length, get_or, map, replicate, fold, All, Option, Some, None, refl, ap, ap₂, sym, ◌∙◌, subst, arith}
use Rattle.std.specs.List.{join_with_byte}
use Rattle.std.proofs.lemmas.Bool.{cases_lt, lt-ltb, le-ltb}
use Rattle.std.proofs.lemmas.List.{get_or_append_left}
use Rattle.std.proofs.lemmas.List.Elements.{All-head, All-tail}
use Rattle.toml.specs.Data.{Members}
use Rattle.wire_spec.specs.Bytes.{AreBytes}
use Rattle.ip_datagram.specs.declared.address.IpAddress.{IpAddress}
use Rattle.ip_datagram.specs.declared.address.IpAddress.TheVariants.{V4, V6}
use Rattle.addr_rules.specs.Texts.{decimal_text, IsGroups, IsShortText, IsEightGroups, IsIpv4Text, IsAddressText, bytes_of_groups, bit_count, IsRuleText}
use Rattle.addr_rules.specs.Pieces.{HasDouble, group_values, pieces_of}
use Rattle.addr_rules.specs.declared.rules.Rule.{Rule}
use Rattle.addr_rules.proofs.TextLemmas.{lacks_below, decimal_digits, ipv4_pieces, four_of}
use Rattle.addr_rules.proofs.GroupTexts.{groups_or_empty, empty_only, single_colon}
use Rattle.addr_rules.proofs.DoubleColons.{no_double, double_at, same_cut}
use Rattle.addr_rules.proofs.RuleTexts.{no_dot, dotted}
use Rattle.plan_spec.specs.Plan.{ServiceRules, PlanFields, with_rules}
use Rattle.std.specs.List.{AllZip}
use Rattle.settings_spec.specs.Changes.{MovedValues, ChangeValues, with_changes}
use Rattle.settings_spec.specs.Refusal.{AreRules, AreServiceRules, AreRuleLists, AreNewRules, IsSpelledMoved, IsSpelledChange, IsPlan, IsAccepted}
use Rattle.settings_spec.specs.Settings.{changes_at, plan_of, rule_texts}

-- Decimals.

abbrev number_of : List ℕ → ℕ
number_of digits = fold (λ n b. n * 10 + (b - 48)) 0 digits

-- a decimal below 1,000 tells its number
told_back : (n : ℕ) → n < 1000 → number_of (decimal_text n) ≡ n
told_back n small =
    ⊎_elim
    (λ (ones : n < 10). rw (lt-ltb n 10 ones) (omega arith))
    (λ (more : 10 ≤ n).
    ⊎_elim
    (λ (tens : n < 100). rw (le-ltb n 10 more) (rw (lt-ltb n 100 tens) (omega arith)))
    (λ (hundreds : 100 ≤ n). rw (le-ltb n 10 more) (rw (le-ltb n 100 hundreds) (omega arith)))
    (cases_lt n 100))
    (cases_lt n 10)

same_number : (n m : ℕ) → n < 256 → m < 256 → decimal_text n ≡ decimal_text m → n ≡ m
same_number n m n_small m_small same =
    sym (told_back n (omega (arith, n_small))) ∙ (ap number_of same ∙ told_back m (omega (arith, m_small)))

-- Groups of IPv6 addresses.

same_groups : (text gs hs : List ℕ) → IsGroups text gs → IsGroups text hs → gs ≡ hs
same_groups text gs hs g h = by_both (groups_or_empty text gs g) (groups_or_empty text hs h)
  where
    by_both : ((text ≡ []) × (gs ≡ [])) ⊎ (group_values (pieces_of 58 text) ≡ Some gs)
        → ((text ≡ []) × (hs ≡ [])) ⊎ (group_values (pieces_of 58 text) ≡ Some hs) → gs ≡ hs
    by_both (inl none) other = none.1 ∙ sym (empty_only hs (subst (λ (t : List ℕ). IsGroups t hs) none.0 h))
    by_both (inr told) (inl none) = empty_only gs (subst (λ (t : List ℕ). IsGroups t gs) none.0 g) ∙ sym none.1
    by_both (inr told) (inr other) = let both : Some gs ≡ Some hs = sym told ∙ other in cc

-- groups before two colons have no two colons, not even with the first of those
none_before : (text front back gs : List ℕ) → text ≡ front ++ 58 ∷ 58 ∷ back → IsGroups front gs → (k : ℕ) → k < length front → HasDouble text k → ⊥
none_before text front back gs whole g k less double =
    let joined : List ℕ = join_with_byte 58 g.pieces in
    let size : length front ≡ length joined = ap (λ (z : List ℕ). length z) g.spelled in
    let behind = single_colon g.pieces k g.each (omega (arith, size, less)) (ap (λ (z : List ℕ). get_or z k 0) (sym g.spelled) ∙ (sym (inside k less) ∙ double.0)) in
    behind.1 (ap (λ (z : List ℕ). get_or z (k + 1) 0) (sym g.spelled) ∙ (sym (inside (k + 1) (omega (arith, size, behind.0))) ∙ double.1))
  where
    inside : (i : ℕ) → i < length front → get_or text i 0 ≡ get_or front i 0
    inside i lt = ap (λ (z : List ℕ). get_or z i 0) whole ∙ get_or_append_left front (58 ∷ 58 ∷ back) 0 i lt

same_short : (text gs hs : List ℕ) → IsShortText text gs → IsShortText text hs → gs ≡ hs
same_short text gs hs g h =
    let cut = same_cut text g.front_text g.back_text h.front_text h.back_text h.front g.whole
    (none_before text g.front_text g.back_text g.front g.whole g.front_spelled) h.whole h.front_spelled in
    let front : g.front ≡ h.front = same_groups h.front_text g.front h.front (subst (λ (t : List ℕ). IsGroups t g.front) cut.0 g.front_spelled) h.front_spelled in
    let back : g.back ≡ h.back = same_groups h.back_text g.back h.back (subst (λ (t : List ℕ). IsGroups t g.back) cut.1 g.back_spelled) h.back_spelled in
    g.value
    ∙ (ap (λ (f : List ℕ). (f ++ replicate (8 - (length f + length g.back)) 0) ++ g.back) front
    ∙ (ap (λ (b : List ℕ). (h.front ++ replicate (8 - (length h.front + length b)) 0) ++ b) back
    ∙ sym h.value))

same_eight : (text gs hs : List ℕ) → IsEightGroups text gs → IsEightGroups text hs → gs ≡ hs
same_eight text gs hs (inl g) (inl h) = same_groups text gs hs g.spelled h.spelled
same_eight text gs hs (inl g) (inr h) = absurd (no_double text gs g.spelled (length h.front_text) (double_at text h.front_text h.back_text h.whole))
same_eight text gs hs (inr g) (inl h) = absurd (no_double text hs h.spelled (length g.front_text) (double_at text g.front_text g.back_text g.whole))
same_eight text gs hs (inr g) (inr h) = same_short text gs hs g h

-- Addresses.

cut_of : (text a : List ℕ) → IsIpv4Text text a → pieces_of 46 text ≡ map decimal_text a
cut_of text a is =
    let four = four_of a is.four in
    ipv4_pieces text (get_or a 0 0) (get_or a 1 0) (get_or a 2 0) (get_or a 3 0) (is.spelled ∙ ap (λ (l : List ℕ). join_with_byte 46 (map decimal_text l)) four)
    ∙ ap (λ (l : List ℕ). map decimal_text l) (sym four)

same_numbers : (ns ms : List ℕ) → AreBytes ns → AreBytes ms → map decimal_text ns ≡ map decimal_text ms → ns ≡ ms
same_numbers [] [] of_ns of_ms same = refl
same_numbers [] (b ∷ ms) of_ns of_ms same = cc
same_numbers (a ∷ ns) [] of_ns of_ms same = cc
same_numbers (a ∷ ns) (b ∷ ms) of_ns of_ms same =
    let first : decimal_text a ≡ decimal_text b = cc in
    let rest : map decimal_text ns ≡ map decimal_text ms = cc in
    cc (
      same_number a b (All-head (λ byte. byte < 256) a ns of_ns) (All-head (λ byte. byte < 256) b ms of_ms) first,
      same_numbers ns ms (All-tail (λ byte. byte < 256) a ns of_ns) (All-tail (λ byte. byte < 256) b ms of_ms) rest,
    )

same_address : (text : List ℕ) (a b : IpAddress) → IsAddressText text a → IsAddressText text b → a ≡ b
same_address text (V4 a) (V4 b) is_a is_b = ap (λ (l : List ℕ). V4 l) (same_numbers a b is_a.bytes is_b.bytes (sym (cut_of text a is_a) ∙ cut_of text b is_b))
same_address text (V4 a) (V6 b) is_a is_b = absurd (dotted text a is_a (no_dot text b is_b))
same_address text (V6 a) (V4 b) is_a is_b = absurd (dotted text b is_b (no_dot text a is_a))
same_address text (V6 a) (V6 b) is_a is_b =
    ap (λ (l : List ℕ). V6 l) (is_a.value ∙ (ap (λ (l : List ℕ). bytes_of_groups l) (same_eight text is_a.groups is_b.groups is_a.spelled is_b.spelled) ∙ sym is_b.value))

-- Rules.

-- a text is cut at its last slash in one way
slash_in : (x d : List ℕ) → All (λ b. eqb b 47 ≡ false) (x ++ 47 ∷ d) → ⊥
slash_in [] d lacks = let no = All-head (λ b. eqb b 47 ≡ false) 47 d lacks in cc
slash_in (a ∷ x) d lacks = slash_in x d (All-tail (λ b. eqb b 47 ≡ false) a (x ++ 47 ∷ d) lacks)

same_parts : (x y d e : List ℕ) → x ++ 47 ∷ d ≡ y ++ 47 ∷ e → All (λ b. eqb b 47 ≡ false) d → All (λ b. eqb b 47 ≡ false) e → (x ≡ y) × (d ≡ e)
same_parts [] [] d e same of_d of_e = (refl, cc)
same_parts [] (b ∷ y) d e same of_d of_e =
    let rest : d ≡ y ++ 47 ∷ e = cc in
    absurd (slash_in y e (subst (λ (t : List ℕ). All (λ c. eqb c 47 ≡ false) t) rest of_d))
same_parts (a ∷ x) [] d e same of_d of_e =
    let rest : e ≡ x ++ 47 ∷ d = cc in
    absurd (slash_in x d (subst (λ (t : List ℕ). All (λ c. eqb c 47 ≡ false) t) rest of_e))
same_parts (a ∷ x) (b ∷ y) d e same of_d of_e =
    let first : a ≡ b = cc in
    let rest : x ++ 47 ∷ d ≡ y ++ 47 ∷ e = cc in
    let parts = same_parts x y d e rest of_d of_e in
    (cc (first, parts.0), parts.1)

few_bits : (address : IpAddress) → bit_count address ≤ 128
few_bits (V4 b) = omega arith
few_bits (V6 b) = omega arith

abbrev rule_with : IpAddress → ℕ → Rule
rule_with address slash = record { address = address; slash = slash }

pub one_rule : (text : List ℕ) (r s : Rule) → IsRuleText text r → IsRuleText text s → r ≡ s
one_rule text r s is_r is_s =
    let parts = same_parts is_r.address_text is_s.address_text (decimal_text r.slash) (decimal_text s.slash) (sym is_r.whole ∙ is_s.whole)
    (lacks_below 48 47 (decimal_text r.slash) (omega arith) (decimal_digits r.slash)) (lacks_below 48 47 (decimal_text s.slash) (omega arith) (decimal_digits s.slash)) in
    let slash : r.slash ≡ s.slash = same_number r.slash s.slash (omega (arith, is_r.range, few_bits r.address)) (omega (arith, is_s.range, few_bits s.address)) parts.1 in
    let address : r.address ≡ s.address = same_address is_s.address_text r.address s.address (subst (λ (t : List ℕ). IsAddressText t r.address) parts.0 is_r.address) is_s.address in
    ap₂ rule_with address slash

same_rules : (texts : List (List ℕ)) (rs ss : List Rule) → AreRules texts rs → AreRules texts ss → rs ≡ ss
same_rules [] [] [] of_rs of_ss = refl
same_rules [] [] (s ∷ ss) of_rs of_ss = absurd of_ss
same_rules [] (r ∷ rs) ss of_rs of_ss = absurd of_rs
same_rules (text ∷ texts) [] ss of_rs of_ss = absurd of_rs
same_rules (text ∷ texts) (r ∷ rs) [] of_rs of_ss = absurd of_ss
same_rules (text ∷ texts) (r ∷ rs) (s ∷ ss) of_rs of_ss = cc (one_rule text r s of_rs.0 of_ss.0, same_rules texts rs ss of_rs.1 of_ss.1)

abbrev rules_with : List Rule → List Rule → ServiceRules Rule
rules_with rules urgent = record { rules = rules; urgent = urgent }

same_own : (texts : ServiceRules (List ℕ)) (r s : ServiceRules Rule) → AreServiceRules texts r → AreServiceRules texts s → r ≡ s
same_own texts r s of_r of_s =
    ap₂ rules_with (same_rules texts.rules r.rules s.rules of_r.rules of_s.rules) (same_rules texts.urgent r.urgent s.urgent of_r.urgent of_s.urgent)

same_lists : (services : List (ServiceRules (List ℕ))) (rs ss : List (ServiceRules Rule)) → AreRuleLists services rs → AreRuleLists services ss → rs ≡ ss
same_lists [] [] [] of_rs of_ss = refl
same_lists [] [] (s ∷ ss) of_rs of_ss = absurd of_ss
same_lists [] (r ∷ rs) ss of_rs of_ss = absurd of_rs
same_lists (texts ∷ services) [] ss of_rs of_ss = absurd of_rs
same_lists (texts ∷ services) (r ∷ rs) [] of_rs of_ss = absurd of_ss
same_lists (texts ∷ services) (r ∷ rs) (s ∷ ss) of_rs of_ss = cc (same_own texts r s of_rs.0 of_ss.0, same_lists services rs ss of_rs.1 of_ss.1)

-- Changes.

same_new_rules : (texts : Option (List (List ℕ))) (rs ss : Option (List Rule)) → AreNewRules texts rs → AreNewRules texts ss → rs ≡ ss
same_new_rules None None None of_rs of_ss = refl
same_new_rules None None (Some s) of_rs of_ss = absurd of_ss
same_new_rules None (Some r) ss of_rs of_ss = absurd of_rs
same_new_rules (Some texts) None ss of_rs of_ss = absurd of_rs
same_new_rules (Some texts) (Some r) None of_rs of_ss = absurd of_ss
same_new_rules (Some texts) (Some r) (Some s) of_rs of_ss = ap (λ (rules : List Rule). Some rules) (same_rules texts r s of_rs of_ss)

abbrev moved_with : List ℕ × Option ℕ → Option (List Rule) → MovedValues Rule
moved_with named rules = record { name = named.0; pid = named.1; rules = rules }

same_moved : (text : MovedValues (List ℕ)) (m n : MovedValues Rule) → IsSpelledMoved text m → IsSpelledMoved text n → m ≡ n
same_moved text m n of_m of_n =
    let named : (m.name, m.pid) ≡ (n.name, n.pid) = ap₂ (λ (name : List ℕ) (pid : Option ℕ). (name, pid)) (of_m.name ∙ sym of_n.name) (of_m.pid ∙ sym of_n.pid) in
    ap₂ moved_with named (same_new_rules text.rules m.rules n.rules of_m.rules of_n.rules)

same_moves : (texts : List (MovedValues (List ℕ))) (ms ns : List (MovedValues Rule)) → AllZip IsSpelledMoved texts ms → AllZip IsSpelledMoved texts ns → ms ≡ ns
same_moves [] [] [] of_ms of_ns = refl
same_moves [] [] (n ∷ ns) of_ms of_ns = absurd of_ns
same_moves [] (m ∷ ms) ns of_ms of_ns = absurd of_ms
same_moves (text ∷ texts) [] ns of_ms of_ns = absurd of_ms
same_moves (text ∷ texts) (m ∷ ms) [] of_ms of_ns = absurd of_ns
same_moves (text ∷ texts) (m ∷ ms) (n ∷ ns) of_ms of_ns = cc (same_moved text m n of_ms.0 of_ns.0, same_moves texts ms ns of_ms.1 of_ns.1)

abbrev change_with : ℕ → List (MovedValues Rule) → ChangeValues Rule
change_with at moved = record { at = at; moved = moved }

same_change : (text : ChangeValues (List ℕ)) (c d : ChangeValues Rule) → IsSpelledChange text c → IsSpelledChange text d → c ≡ d
same_change text c d of_c of_d = ap₂ change_with (of_c.at ∙ sym of_d.at) (same_moves text.moved c.moved d.moved of_c.moved of_d.moved)

same_changes : (texts : List (ChangeValues (List ℕ))) (cs ds : List (ChangeValues Rule)) → AllZip IsSpelledChange texts cs → AllZip IsSpelledChange texts ds → cs ≡ ds
same_changes [] [] [] of_cs of_ds = refl
same_changes [] [] (d ∷ ds) of_cs of_ds = absurd of_ds
same_changes [] (c ∷ cs) ds of_cs of_ds = absurd of_cs
same_changes (text ∷ texts) [] ds of_cs of_ds = absurd of_cs
same_changes (text ∷ texts) (c ∷ cs) [] of_cs of_ds = absurd of_ds
same_changes (text ∷ texts) (c ∷ cs) (d ∷ ds) of_cs of_ds = cc (same_change text c d of_cs.0 of_ds.0, same_changes texts cs ds of_cs.1 of_ds.1)

-- Plans.

one_plan_of_table : (top : Members) (p q : PlanFields) → IsPlan top p → IsPlan top q → p ≡ q
one_plan_of_table top p q is_p is_q =
    is_p.values
    ∙ (ap₂ (λ (rules : List (ServiceRules Rule)) (changes : List (ChangeValues Rule)). with_changes (with_rules (plan_of top) rules) changes)
    (same_lists (rule_texts top) is_p.rules is_q.rules is_p.spelled.of_services is_q.spelled.of_services)
    (same_changes (changes_at top) is_p.changes is_q.changes is_p.spelled.of_changes is_q.spelled.of_changes)
    ∙ sym is_q.values)

pub one_plan : (bytes : List ℕ) (p q : PlanFields) → IsAccepted bytes p → IsAccepted bytes q → p ≡ q
one_plan bytes p q is_p is_q =
    let both : Some is_p.top ≡ Some is_q.top = sym is_p.document.read ∙ is_q.document.read in
    let top : is_p.top ≡ is_q.top = cc in
    one_plan_of_table is_q.top p q (subst (λ (t : Members). IsPlan t p) top is_p.gives) is_q.gives
