-- A text is read in one way only.
use Rattle.std.proofs.Common.{◌≡◌, ℕ, ◌+◌, ◌*◌, ◌/◌, ◌%◌, ◌<◌, ◌≤◌, cond, eqb, ◌⊎◌, List, [], ◌∷◌, ◌++◌, length, Some, None, Option, sym, refl, ap, ◌∙◌, subst, inl, inr, append_assoc, append-nil, arith, length-append}
use Rattle.activity.specs.declared.Activity.{Activity}
use Rattle.program.specs.declared.command.Command.{Command}
use Rattle.program.specs.declared.command.Command.TheVariants.{C, P, R, Open, Bar, Close, Stop}
use Rattle.program.specs.declared.refusal.Fault.{Fault}
use Rattle.program.specs.declared.refusal.Fault.TheVariants.{TooLong, Misplaced, CutOff, TooManySteps, TooDeep, Trailing}
use Rattle.program.specs.declared.refusal.Refusal.{Refusal}
use Rattle.program.specs.Grammar.{Body, mark, written, operands, bytes, Yields, text_commands}
use Rattle.program.specs.Refusals.{weight, step_count, open_after, opened, peak, Within, Whole, Begins, Reason, Stuck, StuckSomewhere, Refused}
use Rattle.program.specs.Places.{body_at, tree}
use Rattle.program.specs.declared.reading.Reading.{Reading}
use Rattle.program.specs.Outcome.{OutcomeBy, Outcome, Same}
use Rattle.program.specs.Contexts.{in_body_at, go}
use Rattle.program.proofs.Trees.{goes_more, whole_goes, begins_goes}
use Rattle.program.proofs.Counts.{opened_peak, opened_more}
use Rattle.program.proofs.Places.{width}
use Rattle.program.proofs.ReadBack.{text_back}
use Rattle.program.proofs.Limits.{within_of}

-- the first command of some bytes, and what follows it
abbrev with_operands : (Activity → Command) → List ℕ → Option (Command × List ℕ)
with_operands k [] = None
with_operands k (a ∷ []) = None
with_operands k (a ∷ h ∷ []) = None
with_operands k (a ∷ h ∷ l ∷ r) = Some (k (record { number = a; parameter = h * 256 + l }), r)

abbrev first : List ℕ → Option (Command × List ℕ)
first [] = None
first (x ∷ xs) =
    cond (eqb x 67) (with_operands (λ s. C s) xs) (
    cond (eqb x 80) (with_operands (λ s. P s) xs) (
    cond (eqb x 82) (with_operands (λ s. R s) xs) (
    cond (eqb x 91) (Some (Open, xs)) (
    cond (eqb x 124) (Some (Bar, xs)) (
    cond (eqb x 93) (Some (Close, xs)) (
    Some (Stop, xs)))))))

back_together : (s : Activity) → record { number = s.number; parameter = s.parameter / 256 * 256 + s.parameter % 256 } ≡ s
back_together s = let e : s.parameter / 256 * 256 + s.parameter % 256 ≡ s.parameter = omega arith in λ i. record { number = s.number; parameter = e i }

first_is : (c : Command) (xs : List ℕ) → first (written c ++ xs) ≡ Some (c, xs)
first_is (C s) xs = ap (λ t. Some (C t, xs)) (back_together s)
first_is (P s) xs = ap (λ t. Some (P t, xs)) (back_together s)
first_is (R s) xs = ap (λ t. Some (R t, xs)) (back_together s)
first_is Open xs = refl
first_is _ xs = refl

same_first : (c d : Command) (xs ys : List ℕ) → written c ++ xs ≡ written d ++ ys → (c ≡ d) × (xs ≡ ys)
same_first c d xs ys e =
    let f : ◌≡◌ {A = Option (Command × List ℕ)} (Some (c, xs)) (Some (d, ys)) = sym (first_is c xs) ∙ ap first e ∙ first_is d ys in
    let p : ◌≡◌ {A = Command × List ℕ} (c, xs) (d, ys) = cc in
    (ap (λ q. q.0) p, ap (λ q. q.1) p)

-- of two readings of some bytes one goes on where the other ends
Further : List Command → List Command → List ℕ → List ℕ → Type 0
Further cs ds u v = (k : List Command) × (cs ≡ ds ++ k) × (v ≡ bytes k ++ u)

compared : (cs ds : List Command) (u v : List ℕ) → bytes cs ++ u ≡ bytes ds ++ v → Further cs ds u v ⊎ Further ds cs v u
unfolding Further
compared [] ds u v e = inr (ds, refl, e)
compared (c ∷ cs) [] u v e = inl (c ∷ cs, refl, sym e)
compared (c ∷ cs) (d ∷ ds) u v e =
    let s = same_first c d (bytes cs ++ u) (bytes ds ++ v) (sym (append_assoc (written c) (bytes cs) u) ∙ e ∙ append_assoc (written d) (bytes ds) v) in
    elim (compared cs ds u v s.1) [
      | inl r ↦ inl (r.0, (λ i. s.0 i ∷ r.1 i), r.2)
      | inr r ↦ inr (r.0, (λ i. sym s.0 i ∷ r.1 i), r.2)
    ]

-- a step is known by its letter
by_letter : ℕ → ℕ
by_letter x = cond (eqb x 67) 1 (cond (eqb x 80) 1 (cond (eqb x 82) 1 0))

weight_is : (c : Command) → weight c ≡ by_letter (mark c)
unfolding by_letter
weight_is (C a) = refl
weight_is _ = refl

weight_mark : (c d : Command) → mark c ≡ mark d → weight c ≡ 1 → weight d ≡ 1
weight_mark c d e w = weight_is d ∙ ap by_letter (sym e) ∙ sym (weight_is c) ∙ w

open_mark : (c : Command) → 91 ≡ mark c → (n : ℕ) → open_after n c ≡ n + 1
open_mark Open e n = refl
open_mark _ e n = absurd (omega arith)

count_append : (us vs : List Command) → step_count (us ++ vs) ≡ step_count us + step_count vs
count_append [] vs = omega arith
count_append (c ∷ us) vs = omega (arith, count_append us vs)

peak_front : (n : ℕ) (us vs : List Command) → peak n us ≤ peak n (us ++ vs)
peak_front n [] [] = omega arith
peak_front n [] (c ∷ vs) = omega arith
peak_front n (c ∷ us) vs = omega (arith, peak_front (open_after n c) us vs)

-- the command after ds is there whole, can stand and is within the limits: nothing is wrong with it
whole_ends : (ds : List Command) (c : Command) → Whole ds → Begins (ds ++ c ∷ []) → ⊥
whole_ends ds c w b = begins_goes (ds ++ c ∷ []) b (goes_more (in_body_at 0) ds c ∙ ap (λ st. go st c) (whole_goes ds w))

head_is : {x y : ℕ} {xs ys : List ℕ} → x ∷ xs ≡ y ∷ ys → (x ≡ y) × (xs ≡ ys)
head_is {x} {y} {xs} {ys} e = let p : x ≡ y = cc in let q : xs ≡ ys = cc in (p, q)

lead : (c : Command) → (bs : List ℕ) × (written c ≡ mark c ∷ bs)
lead (C s) = (operands s, refl)
lead (P s) = (operands s, refl)
lead (R s) = (operands s, refl)
lead _ = ([], refl)

module _ (ds : List Command) (c : Command) (k : List Command) (more : List ℕ) (begins : Begins (ds ++ c ∷ [])) (within : Within (ds ++ c ∷ k)) where
  blocked : (f : Fault) (rest : List ℕ) → rest ≡ written c ++ more → Reason f ds rest → ⊥
  blocked Misplaced (x ∷ rest) e r =
      let h = head_is (e ∙ ap (λ w. w ++ more) (lead c).1) in
      r.1 c (record { marked = sym h.0; begins = begins })
  blocked CutOff [] e r = absurd (omega (arith, ap length (e ∙ ap (λ w. w ++ more) (lead c).1)))
  blocked CutOff (x ∷ rest) e (d, s, w, few, short) =
      let h = head_is (e ∙ ap (λ w. w ++ more) (lead c).1) in
      let step = weight_mark d c (s.marked ∙ h.0) w in
      omega (arith, width c, ap length e ∙ length-append (written c) more)
  blocked TooManySteps (x ∷ rest) e (d, s, w, full) =
      let h = head_is (e ∙ ap (λ w. w ++ more) (lead c).1) in
      let step = weight_mark d c (s.marked ∙ h.0) w in
      omega (arith, within.few, count_append ds (c ∷ k))
  blocked TooDeep (x ∷ rest) e (s, four) =
      let h = head_is (e ∙ ap (λ w. w ++ more) (lead c).1) in
      let opens = open_mark c (s.marked ∙ h.0) (opened 0 ds) in
      let same = ap (peak 0) (append_assoc ds (c ∷ []) k) in
      omega (arith, within.shallow, peak_front 0 (ds ++ c ∷ []) k, opened_peak 0 (ds ++ c ∷ []), opened_more 0 ds c)
  blocked Trailing (x ∷ rest) e r = whole_ends ds c r begins
  blocked _ _ e r = r

shorter : (ds : List Command) (c : Command) (k : List Command) → Begins (ds ++ c ∷ k) → Begins (ds ++ c ∷ [])
shorter ds c k (b, more, e) = (b, k ++ more, e ∙ append_assoc ds (c ∷ k) more ∙ sym (append_assoc ds (c ∷ []) (k ++ more)))

-- a reading that goes on past a fault's place refutes the fault
past : (t : List ℕ) (f : Fault) (p : ℕ) (ds : List Command) (rest : List ℕ) (k : List Command) (u : List ℕ) → Stuck t f p ds rest → rest ≡ bytes k ++ u → Begins (ds ++ k) → Within (ds ++ k) → k ≡ []
past t f p ds rest [] u s e b w = refl
past t f p ds rest (c ∷ k) u s e b w = absurd (blocked ds c k (bytes k ++ u) (shorter ds c k b) w f rest (e ∙ append_assoc (written c) (bytes k) u) s.reason)

whole_begins : (b : Body) → Begins (text_commands b)
whole_begins b = (b, [], sym (append-nil (text_commands b)))

no_bytes : (k : List Command) (u : List ℕ) → [] ≡ bytes k ++ u → (k ≡ []) × (u ≡ [])
no_bytes [] u e = (refl, sym e)
no_bytes (c ∷ k) u e = absurd (omega (arith, ap length (e ∙ append_assoc (written c) (bytes k) u ∙ ap (λ w. w ++ (bytes k ++ u)) (lead c).1)))

none_wrong : (f : Fault) (cs : List Command) → Whole cs → Reason f cs [] → ⊥
none_wrong CutOff cs w r = r w
none_wrong _ cs w r = r

-- one fault at one place
same_fault : (f g : Fault) (cs : List Command) (rest : List ℕ) → Reason f cs rest → Reason g cs rest → f ≡ g
same_fault CutOff CutOff cs [] a b = refl
same_fault CutOff _ cs [] a b = absurd b
same_fault _ _ cs [] a b = absurd a
same_fault Misplaced Misplaced cs (x ∷ rest) a b = refl
same_fault CutOff CutOff cs (x ∷ rest) a b = refl
same_fault TooManySteps TooManySteps cs (x ∷ rest) a b = refl
same_fault TooDeep TooDeep cs (x ∷ rest) a b = refl
same_fault Trailing Trailing cs (x ∷ rest) a b = refl
same_fault Misplaced CutOff cs (x ∷ rest) a b = absurd (a.1 b.0 b.1)
same_fault Misplaced TooManySteps cs (x ∷ rest) a b = absurd (a.1 b.0 b.1)
same_fault Misplaced TooDeep cs (x ∷ rest) a b = absurd (a.1 Open b.0)
same_fault Misplaced Trailing cs (x ∷ rest) a b = absurd (a.0 b)
same_fault CutOff Misplaced cs (x ∷ rest) a b = absurd (b.1 a.0 a.1)
same_fault CutOff TooManySteps cs (x ∷ rest) a b = absurd (omega (arith, a.3, b.3))
same_fault CutOff TooDeep cs (x ∷ rest) a b = absurd (omega (arith, weight_mark a.0 Open (a.1.marked ∙ sym b.0.marked) a.2))
same_fault CutOff Trailing cs (x ∷ rest) a b = absurd (whole_ends cs a.0 b a.1.begins)
same_fault TooManySteps Misplaced cs (x ∷ rest) a b = absurd (b.1 a.0 a.1)
same_fault TooManySteps CutOff cs (x ∷ rest) a b = absurd (omega (arith, a.3, b.3))
same_fault TooManySteps TooDeep cs (x ∷ rest) a b = absurd (omega (arith, weight_mark a.0 Open (a.1.marked ∙ sym b.0.marked) a.2))
same_fault TooManySteps Trailing cs (x ∷ rest) a b = absurd (whole_ends cs a.0 b a.1.begins)
same_fault TooDeep Misplaced cs (x ∷ rest) a b = absurd (b.1 Open a.0)
same_fault TooDeep CutOff cs (x ∷ rest) a b = absurd (omega (arith, weight_mark b.0 Open (b.1.marked ∙ sym a.0.marked) b.2))
same_fault TooDeep TooManySteps cs (x ∷ rest) a b = absurd (omega (arith, weight_mark b.0 Open (b.1.marked ∙ sym a.0.marked) b.2))
same_fault TooDeep Trailing cs (x ∷ rest) a b = absurd (whole_ends cs Open b a.0.begins)
same_fault Trailing Misplaced cs (x ∷ rest) a b = absurd (b.0 a)
same_fault Trailing CutOff cs (x ∷ rest) a b = absurd (whole_ends cs b.0 a b.1.begins)
same_fault Trailing TooManySteps cs (x ∷ rest) a b = absurd (whole_ends cs b.0 a b.1.begins)
same_fault Trailing TooDeep cs (x ∷ rest) a b = absurd (whole_ends cs Open a b.0.begins)
same_fault TooLong _ cs (x ∷ rest) a b = absurd a
same_fault _ _ cs (x ∷ rest) a b = absurd b

-- the reading of the one that goes on is that of the other
ends_there : (t : List ℕ) (f : Fault) (p : ℕ) (cs ds : List Command) (u v : List ℕ) → Stuck t f p ds v → Begins cs → Within cs → Further cs ds u v → (cs ≡ ds) × (u ≡ v)
unfolding Further
ends_there t f p cs ds u v s b w (k, e, g) =
    let none = past t f p ds v k u s g (subst Begins e b) (subst Within e w) in
    (e ∙ ap (λ l. ds ++ l) none ∙ append-nil ds, sym (g ∙ ap (λ l. bytes l ++ u) none))

one_stuck : (t : List ℕ) (f g : Fault) (p q : ℕ) (cs ds : List Command) (u v : List ℕ) → Stuck t f p cs u → Stuck t g q ds v → (f ≡ g) × (p ≡ q)
one_stuck t f g p q cs ds u v a b =
    let same : (cs ≡ ds) × (u ≡ v) = elim (compared cs ds u v (sym a.split ∙ b.split)) [
      | inl r ↦ ends_there t g q cs ds u v b a.begins a.within r
      | inr r ↦ let e = ends_there t f p ds cs v u a b.begins b.within r in (sym e.0, sym e.1)
    ] in (
      same_fault f g cs u a.reason (subst (λ l. Reason g cs l) (sym same.1) (subst (λ l. Reason g l v) (sym same.0) b.reason)),
      a.placed ∙ ap (λ l. length (bytes l)) same.0 ∙ sym b.placed,
    )

yields_stuck : (t : List ℕ) (b : Body) (f : Fault) (p : ℕ) (ds : List Command) (v : List ℕ) → Yields t b → Stuck t f p ds v → ⊥
unfolding Further
yields_stuck t b f p ds v y s =
    let cs = text_commands b in
    let same : (cs ≡ ds) × ([] ≡ v) = elim (compared cs ds [] v (append-nil (bytes cs) ∙ sym y.spelled ∙ s.split)) [
      | inl r ↦ ends_there t f p cs ds [] v s (whole_begins b) (within_of t b y) r
      | inr r ↦ let n = no_bytes r.0 v r.2 in (sym (r.1 ∙ ap (λ l. cs ++ l) n.0 ∙ append-nil cs), sym n.1)
    ] in
    none_wrong f cs (b, refl) (subst (λ l. Reason f cs l) (sym same.1) (subst (λ l. Reason f l v) (sym same.0) s.reason))

-- a refusal that is not for length has a stuck reading
is_stuck : (t : List ℕ) (f : Fault) (p : ℕ) → Refused t f p → ((f ≡ TooLong) × (255 < length t) × (p ≡ 255)) ⊎ StuckSomewhere t f p
is_stuck t TooLong p r = inl (refl, r.0, r.1)
is_stuck t f p r = inr r

-- a text that the grammar yields is not refused
apart : (t : List ℕ) (b : Body) (f : Fault) (p : ℕ) → Yields t b → Refused t f p → ⊥
apart t b f p y r =
    elim (is_stuck t f p r) [
      | inl x ↦ omega (arith, y.short, x.1)
      | inr x ↦ yields_stuck t b f p x.0 x.1 y x.2
    ]

-- one text has one tree
pub one_tree : (t : List ℕ) (b d : Body) → Yields t b → Yields t d → b ≡ d
unfolding Further
one_tree t b d y z =
    let cs = text_commands b in
    let ds = text_commands d in
    let same : cs ≡ ds = elim (compared cs ds [] [] (append-nil (bytes cs) ∙ sym y.spelled ∙ z.spelled ∙ sym (append-nil (bytes ds)))) [
      | inl r ↦ r.1 ∙ ap (λ l. ds ++ l) (no_bytes r.0 [] r.2).0 ∙ append-nil ds
      | inr r ↦ sym (r.1 ∙ ap (λ l. cs ++ l) (no_bytes r.0 [] r.2).0 ∙ append-nil cs)
    ] in
    sym (text_back b) ∙ ap body_at same ∙ text_back d

-- one text is refused for one fault at one place
one_refusal : (t : List ℕ) (f g : Fault) (p q : ℕ) → Refused t f p → Refused t g q → (f ≡ g) × (p ≡ q)
one_refusal t f g p q a b = go_on (is_stuck t f p a) (is_stuck t g q b)
  where
    go_on : ((f ≡ TooLong) × (255 < length t) × (p ≡ 255)) ⊎ StuckSomewhere t f p → ((g ≡ TooLong) × (255 < length t) × (q ≡ 255)) ⊎ StuckSomewhere t g q → (f ≡ g) × (p ≡ q)
    go_on (inl x) (inl y) = (x.0 ∙ sym y.0, x.2 ∙ sym y.2)
    go_on (inl x) (inr (ds, v, s)) = absurd (omega (arith, x.1, s.short))
    go_on (inr (cs, u, s)) (inl y) = absurd (omega (arith, y.1, s.short))
    go_on (inr (cs, u, s)) (inr (ds, v, r)) = one_stuck t f g p q cs ds u v s r

-- a text that the grammar yields is read, and its program is of that tree
accepts : (t : List ℕ) (d : Body) (o : Option Refusal) → OutcomeBy t d o → (b : Body) → Yields t b → (o ≡ None) × (d ≡ b)
accepts t d None y b z = (refl, one_tree t d b y z)
accepts t d (Some e) (r, f) b z = absurd (apart t b e.fault e.place z r)

-- what reading a text comes to is fixed
same_refusal : (a b : Refusal) → (a.fault ≡ b.fault) × (a.place ≡ b.place) → a ≡ b
same_refusal a b (p, q) = λ i. record { fault = p i; place = q i }

once : (t : List ℕ) (b d : Body) (o q : Option Refusal) → OutcomeBy t b o → OutcomeBy t d q → (o ≡ q) × (b ≡ d)
once t b d None None y z = (refl, one_tree t b d y z)
once t b d None (Some e) y z = absurd (apart t b e.fault e.place y z.0)
once t b d (Some e) None y z = absurd (apart t d e.fault e.place z y.0)
once t b d (Some e) (Some g) y z =
    let same = same_refusal e g (one_refusal t e.fault g.fault e.place g.place y.0 z.0) in
    (ap Some same, y.1 ∙ sym z.1)

-- what comes of a text is all that can come of it
pub settled : (t : List ℕ) (r : Reading) → Outcome t r → record { outcome : Outcome t r; accepts : (b : Body) → Yields t b → (r.refusal ≡ None) × (tree r.program ≡ b); once : (q : Reading) → Outcome t q → Same r q }
settled t r told = record {
  outcome = told;
  accepts = accepts t (tree r.program) r.refusal told;
  once = λ q o. let same = once t (tree r.program) (tree q.program) r.refusal q.refusal told o in record { refusal = same.0; program = same.1 };
}
