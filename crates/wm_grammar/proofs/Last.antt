-- The place of the last of some turns that has one, when a turn is put behind them or taken from there.
use Rattle.std.proofs.Common.{◌≡◌, ℕ, true, Bool, List, [], ◌∷◌, ◌++◌, length, Option, Some, None, refl, sym, ap, ◌∙◌, arith}
use Rattle.std.proofs.lemmas.Bool.{false≢true}
use Rattle.wm_grammar.specs.declared.search.Turn.{Turn}
use Rattle.wm_words.specs.Pieces.{first_of, starts}
use Rattle.wm_grammar.specs.Farthest.{Search, here, farthest}
use Rattle.wm_grammar.specs.Last.{at_turn, last_of}
use Rattle.wm_grammar.proofs.Bounds.{first_assoc}

first_none : (a : Option ℕ) → a ≡ first_of a None
first_none None = refl
first_none (Some n) = refl

pub last_push : (ts : List Turn) (t : Turn) → last_of (ts ++ t ∷ []) ≡ first_of (at_turn t) (last_of ts)
unfolding last_of
last_push [] t = first_none (at_turn t)
last_push (q ∷ ts) t = ap (λ (o : Option ℕ). first_of o (at_turn q)) (last_push ts t) ∙ first_assoc (at_turn t) (last_of ts) (at_turn q)

at_semicolon : (go : Search) (fresh : Bool) (s e : List ℕ) (o : Option ℕ) → starts 59 e ≡ true → here go fresh s e ≡ first_of (here go fresh s e) o
unfolding here
at_semicolon go fresh s [] o h = absurd (false≢true h)
at_semicolon go fresh s (c ∷ r) o h = rw h refl

-- where the turn ends with ; those before it do not matter
pub last_alone : (ts us : List Turn) (t : Turn) → us ≡ [] → starts 59 t.end.now ≡ true → last_of (us ++ t ∷ []) ≡ first_of (at_turn t) (last_of ts)
unfolding last_of
last_alone ts us t e h = rw e (at_semicolon (farthest t.left) t.fresh t.text.now t.end.now (last_of ts) h)

pub last_nil : (ts : List Turn) (o : Option ℕ) → ts ≡ [] → first_of o (last_of ts) ≡ o
unfolding last_of
last_nil ts o e = ap (λ (us : List Turn). first_of o (last_of us)) e ∙ sym (first_none o)

-- a turn is taken away that has a place
pub last_some : (ts us : List Turn) (t : Turn) (n : ℕ) (all : Option ℕ) → ts ≡ us ++ t ∷ [] → at_turn t ≡ Some n → last_of ts ≡ all → Some n ≡ all
last_some ts us t n all e f h = ap (λ (o : Option ℕ). first_of o (last_of us)) (sym f) ∙ (sym (last_push us t) ∙ (ap last_of (sym e) ∙ h))

-- a turn is taken away that has none
pub last_none : (ts us : List Turn) (t : Turn) (all : Option ℕ) → ts ≡ us ++ t ∷ [] → at_turn t ≡ None → last_of ts ≡ all → last_of us ≡ all
last_none ts us t all e f h = ap (λ (o : Option ℕ). first_of o (last_of us)) (sym f) ∙ (sym (last_push us t) ∙ (ap last_of (sym e) ∙ h))

-- no turn is left
pub last_empty : (ts : List Turn) (all : Option ℕ) → length ts ≡ 0 → last_of ts ≡ all → None ≡ all
unfolding last_of
last_empty [] all e h = h
last_empty (t ∷ ts) all e h = absurd (omega arith)
