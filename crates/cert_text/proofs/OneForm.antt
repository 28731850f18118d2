-- A line is of at most one of the forms that are due, and says at most one entry.
use Rattle.std.proofs.Common.{◌≡◌, ℕ, ◌+◌, Bool, true, false, cond, List, [], ◌∷◌, Some, Ok, Option, Result, ℤ, sym, ap, subst, ◌∙◌, inl, inr, arith}
use Rattle.std.specs.Prelude.{slice_index, nat_lt, ◌==◌}
use Rattle.text_words.specs.Lines.{Line, Word}
use Rattle.game_model.specs.Game.{GameData}
use Rattle.controller.specs.Certificates.{FractionData}
use Rattle.cert_text.specs.declared.fault.CertKind.{CertKind}
use Rattle.cert_text.specs.Forms.{fraction_of}
use Rattle.cert_text.specs.Entries.{Entry, Version, Outcome, Gap, Lower, Upper, Tail, Sizes, Start, Multiple, From, Over, Node, Vector, Mix, Next, Point, Belief, Value, Mixes, Split, End}
use Rattle.cert_text.specs.Due.{Form, VersionLine, OutcomeLine, GapLine, LowerLine, UpperLine, TailLine, StartLine, MultipleLine, FromLine, OverLine, FirstNodeLine, NodeLine, NextLine, FirstPointLine, PointLine, StateLine, SplitLine, EndLine, nodes_in, points_in, version_in, next_in, due, IsOneOf, name_of, IsFraction, SayNumbers, entry_in}
use Rattle.cert_text.specs.Rules.{IsDueLine, Says}

-- ---- first words that differ

apart_at : (i : ℕ) (xs ys : List ℕ) → (slice_index xs i ≡ slice_index ys i → ⊥) → xs ≡ ys → ⊥
apart_at i xs ys h e = h (ap (λ (w : List ℕ). slice_index w i) e)

-- the names of two forms differ
abbrev pub Differ : Form → Form → Type 0
Differ f h = name_of f ≡ name_of h → ⊥

next_node : Differ NextLine NodeLine
next_node e = let q : 101 ≡ 111 = ap (λ (w : List ℕ). slice_index w 1) e in omega (arith, q)

next_point : Differ NextLine FirstPointLine
next_point e = let q : 110 ≡ 112 = ap (λ (w : List ℕ). slice_index w 0) e in omega (arith, q)

split_point : Differ SplitLine PointLine
split_point e = let q : 115 ≡ 112 = ap (λ (w : List ℕ). slice_index w 0) e in omega (arith, q)

split_end : Differ SplitLine EndLine
split_end e = let q : 115 ≡ 101 = ap (λ (w : List ℕ). slice_index w 0) e in omega (arith, q)

pub from_over : Differ FromLine OverLine
from_over e = let q : 102 ≡ 111 = ap (λ (w : List ℕ). slice_index w 0) e in omega (arith, q)

pub over_node : Differ OverLine FirstNodeLine
over_node e = let q : 111 ≡ 110 = ap (λ (w : List ℕ). slice_index w 0) e in omega (arith, q)

-- at most two forms, whose names differ
abbrev pub AreApart : List Form → Type 0
AreApart [] = Unit {0}
AreApart (f ∷ []) = Unit {0}
AreApart (f ∷ h ∷ []) = Differ f h
AreApart (f ∷ h ∷ k ∷ forms) = ⊥

pub node_apart : (more : Bool) → AreApart (NextLine ∷ cond more NodeLine FirstPointLine ∷ [])
node_apart true = next_node
node_apart false = next_point

pub point_apart : (more : Bool) → AreApart (SplitLine ∷ cond more PointLine EndLine ∷ [])
point_apart true = split_point
point_apart false = split_end

starts_apart : (first : Bool) → AreApart (cond first (StartLine ∷ []) (MultipleLine ∷ []))
starts_apart true = tt
starts_apart false = tt

mixes_apart : (states more : Bool) → AreApart (cond states (StateLine ∷ []) (SplitLine ∷ cond more PointLine EndLine ∷ []))
mixes_apart true more = tt
mixes_apart false more = point_apart more

due_apart : (g : GameData) (before : List Entry) → AreApart (due g before)
due_apart g [] = tt
due_apart g (Version number ∷ before) = tt
due_apart g (Outcome ending ∷ before) = tt
due_apart g (Gap f ∷ before) = tt
due_apart g (Lower f ∷ before) = tt
due_apart g (Upper f ∷ before) = tt
due_apart g (Tail f ∷ before) = tt
due_apart g (Sizes nodes points ∷ before) = starts_apart (version_in before == 1)
due_apart g (Start node point ∷ before) = tt
due_apart g (Multiple multiple ∷ before) = tt
due_apart g (From node weight ∷ before) = from_over
due_apart g (Over point weight ∷ before) = over_node
due_apart g (Node number ∷ before) = tt
due_apart g (Vector entries ∷ before) = tt
due_apart g (Mix weights ∷ before) = node_apart (nat_lt (next_in before) (nodes_in before))
due_apart g (Next branch ∷ before) = node_apart (nat_lt (next_in before) (nodes_in before))
due_apart g (Point number ∷ before) = tt
due_apart g (Belief parts ∷ before) = tt
due_apart g (Value value ∷ before) = tt
due_apart g (Mixes state weights ∷ before) = mixes_apart (nat_lt (state + 1) g.shape.states) (nat_lt (next_in before) (points_in before))
due_apart g (Split branch ∷ before) = point_apart (nat_lt (next_in before) (points_in before))
due_apart g (End ∷ before) = tt

one_of : (forms : List Form) (f h : Form) → AreApart forms → IsOneOf forms f → IsOneOf forms h → name_of f ≡ name_of h → f ≡ h
one_of [] f h apart a b e = absurd a
one_of (x ∷ []) f h apart (inl a) (inl b) e = a ∙ sym b
one_of (x ∷ []) f h apart (inr a) b e = absurd a
one_of (x ∷ []) f h apart (inl a) (inr b) e = absurd b
one_of (x ∷ y ∷ []) f h apart (inl a) (inl b) e = a ∙ sym b
one_of (x ∷ y ∷ []) f h apart (inl a) (inr (inl b)) e = absurd (apart (ap name_of (sym a) ∙ e ∙ ap name_of b))
one_of (x ∷ y ∷ []) f h apart (inl a) (inr (inr b)) e = absurd b
one_of (x ∷ y ∷ []) f h apart (inr (inl a)) (inl b) e = absurd (apart (ap name_of (sym b) ∙ sym e ∙ ap name_of a))
one_of (x ∷ y ∷ []) f h apart (inr (inl a)) (inr (inl b)) e = a ∙ sym b
one_of (x ∷ y ∷ []) f h apart (inr (inl a)) (inr (inr b)) e = absurd b
one_of (x ∷ y ∷ []) f h apart (inr (inr a)) b e = absurd a
one_of (x ∷ y ∷ z ∷ forms) f h apart a b e = absurd apart

words_are : (a b : Word) (cs ds : Line) → a ∷ cs ≡ b ∷ ds → (a ≡ b) × (cs ≡ ds)
words_are a b cs ds e = (cc, cc)

-- ---- one form, one list of words, one list of numbers

pub same_form : (g : GameData) (before : List Entry) (line : Line) (f h : Form) (words more : Line) → IsDueLine g before line f words → IsDueLine g before line h more → (f ≡ h) × (words ≡ more)
same_form g before line f h words more a b =
    let p = words_are (name_of f) (name_of h) words more (sym a.1.0 ∙ b.1.0) in
    (one_of (due g before) f h (due_apart g before) a.0 b.0 p.0, p.1)

fraction_read : FractionData → Result FractionData CertKind
fraction_read f = Ok f

fraction_same : (f h : FractionData) → fraction_read f ≡ fraction_read h → f ≡ h
unfolding fraction_read
fraction_same f h e = cc

word_same : (a b : Word) → a ∷ [] ≡ b ∷ [] → a ≡ b
word_same a b e = cc

numbers_read : List ℤ → Option (List ℤ)
numbers_read ns = Some ns

numbers_same : (ns ms : List ℤ) → numbers_read ns ≡ numbers_read ms → ns ≡ ms
unfolding numbers_read
numbers_same ns ms e = cc

fractions_same : (words : Line) (ns ms : List ℤ) → IsFraction words ns → IsFraction words ms → ns ≡ ms
unfolding fraction_read
fractions_same words ns ms a b =
    let w = word_same a.0 b.0 (sym a.2 ∙ b.2) in
    let f = fraction_same a.1 b.1 (sym a.3 ∙ ap fraction_of w ∙ b.3) in
    a.4 ∙ ap (λ (h : FractionData). h.num ∷ h.den ∷ []) f ∙ sym b.4

pub same_numbers : (form : Form) (words : Line) (ns ms : List ℤ) → SayNumbers form words ns → SayNumbers form words ms → ns ≡ ms
unfolding numbers_read
same_numbers VersionLine words ns ms a b = a ∙ sym b
same_numbers OutcomeLine words ns ms a b = a ∙ sym b
same_numbers GapLine words ns ms a b = fractions_same words ns ms a b
same_numbers LowerLine words ns ms a b = fractions_same words ns ms a b
same_numbers UpperLine words ns ms a b = fractions_same words ns ms a b
same_numbers TailLine words ns ms a b = fractions_same words ns ms a b
same_numbers _ words ns ms a b = numbers_same ns ms (sym a ∙ b)

-- the same numbers, where the form and the words are the same
pub numbers_again : (f h : Form) (words more : Line) (ns ms : List ℤ) → f ≡ h → words ≡ more → SayNumbers f words ns → SayNumbers h more ms → ns ≡ ms
numbers_again f h words more ns ms p q a b =
    same_numbers h more ns ms (subst (λ (w : Line). SayNumbers h w ns) q (subst (λ (x : Form). SayNumbers x words ns) p a)) b

pub same_entry : (g : GameData) (before : List Entry) (line : Line) (d e : Entry) → Says g before line d → Says g before line e → d ≡ e
same_entry g before line d e a b =
    let p = same_form g before line a.0 b.0 a.1 b.1 a.3 b.3 in
    let n = numbers_again a.0 b.0 a.1 b.1 a.2 b.2 p.0 p.1 a.4 b.4 in
    a.5 ∙ ap (λ (x : Form). entry_in x a.1 a.2) p.0 ∙ ap (λ (w : Line). entry_in b.0 w a.2) p.1 ∙ ap (λ (ns : List ℤ). entry_in b.0 b.1 ns) n ∙ sym b.5
