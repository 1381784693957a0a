-- The properties on a line are read as they stand, each once.
use Rattle.std.proofs.Common.{◌≡◌, ◌∙◌, refl, ap, sym, subst, ℕ, zero, suc, ◌+◌, ◌<◌, ◌≤◌, inr, List, [], ◌∷◌, ◌++◌, length, Option, None, Some, codes, arith}
use Rattle.std.proofs.lemmas.List.{append_assoc}
use Rattle.wm_base.specs.declared.properties.Props.{Props}
use Rattle.wm_fields.specs.Fields.{behind, gap_at, or_none}
use Rattle.wm_fields.specs.Properties.{field_at, none_given, once, or_field, or_text, properties_at, property_at, props_of, window_at, with_property}
use Rattle.wm_fields.specs.Quoted.{quoted_at}
use Rattle.law_script.proofs.TextLemmas.{IsQuotedOff, quoted_reads, quoted_split}
use Rattle.law_script.proofs.Turns.{none_by, same_some}
use Rattle.law_script.proofs.WordLemmas.{IsFirst, IsGapped, Starts, behind_split, first_of_words, gap_over, gap_split, starts_longer, words_from}
use Rattle.law_script.specs.Pieces.{AreOnce, AreProperties, AreProps, AreWords, BeginsWithout, Field, Class, Instance, Role, Kind, Machine, Title, IsGap, IsMissing, IsProperty, Property, title_of}
use Rattle.law_script.proofs.GivenLemmas.{Given, get, put, left, left_less, once_by, Comes, AreFree, comes_more, free_more, free_missing, free_before, gives_same, comes_gives, none_free, none_left}

-- ---- properties that stand there are read

-- what the reader does behind a gap
abbrev behind_gap : Given → List ℕ → Option (Given × List ℕ)
behind_gap g word = or_none (field_at word) (λ f. or_none (quoted_at f.1) (λ said. or_none (with_property f.0 said.0 g) (λ more. Some (more, said.1))))

-- what it does behind the title of a property
abbrev behind_title : Field → Given → List ℕ → Option (Given × List ℕ)
behind_title f g text = or_none (quoted_at text) (λ said. or_none (once (get f g) (put f said.0 g)) (λ more. Some (more, said.1)))

title_reads : (f : Field) (g : Given) (rest : List ℕ) → behind_gap g (title_of f ++ rest) ≡ behind_title f g rest
title_reads Class g rest = refl
title_reads Instance g rest = refl
title_reads Role g rest = refl
title_reads Kind g rest = refl
title_reads Machine g rest = refl
title_reads Title g rest = refl

title_starts : (f : Field) → Starts (title_of f)
title_starts Class = λ e. absurd (omega (arith, e))
title_starts Instance = λ e. absurd (omega (arith, e))
title_starts Role = λ e. absurd (omega (arith, e))
title_starts Kind = λ e. absurd (omega (arith, e))
title_starts Machine = λ e. absurd (omega (arith, e))
title_starts Title = λ e. absurd (omega (arith, e))

some_text : (gap later : List ℕ) → IsGap gap → 0 < length (gap ++ later)
some_text [] later is = absurd (omega (arith, is.some))
some_text (c ∷ cs) later is = omega arith

unspaced : (text : List ℕ) → Starts text → BeginsWithout 32 text
unspaced [] starts = tt
unspaced (c ∷ cs) starts = starts

property_reads : (p : Property) (g : Given) (word gap later rest : List ℕ) → get p.field g ≡ None → IsProperty word p → IsGap gap → later ≡ word ++ rest
    → property_at g (gap ++ later) ≡ Some (put p.field p.said g, rest)
property_reads p g word gap later rest free is is_gap whole =
    let full : later ≡ title_of p.field ++ (is.quoted ++ rest) = whole ∙ ap (λ w. w ++ rest) is.whole ∙ append_assoc (title_of p.field) is.quoted rest in
    let starts : Starts later = subst Starts (sym full) (starts_longer (title_of p.field) (is.quoted ++ rest) (title_starts p.field)) in
    ap (λ o. or_none o (behind_gap g)) (gap_over gap later is_gap (unspaced later starts))
    ∙ ap (behind_gap g) full
    ∙ title_reads p.field g (is.quoted ++ rest)
    ∙ ap (λ o. or_none o (λ said. or_none (once (get p.field g) (put p.field said.0 g)) (λ more. Some (more, said.1)))) (quoted_reads 1024 is.quoted p.said rest is.is_quoted)
    ∙ ap (λ o. or_none (once o (put p.field p.said g)) (λ more. Some (more, rest))) free

properties_step : (m : ℕ) (g next : Given) (text rest : List ℕ) → 0 < length text → property_at g text ≡ Some (next, rest) → properties_at (suc m) g text ≡ properties_at m next rest
properties_step m g next [] rest some e = absurd (omega (arith, some))
properties_step m g next (c ∷ cs) rest some e = ap (λ o. or_none o (λ found. properties_at m found.0 found.1)) e

-- the properties of a text come to this
record ComeTo (n : ℕ) (g : Given) (text : List ℕ) (ps : List Property) : Type 0 where
  pub h : Given
  pub read : properties_at n g text ≡ Some h
  pub comes : (k : Field) → Comes ps k (get k g) (get k h)

properties_read : (n : ℕ) (g : Given) (text : List ℕ) (words : List (List ℕ)) (ps : List Property) → AreProperties words ps → AreOnce ps → AreFree ps g → left g ≤ n
    → AreWords ([] ∷ words) text → ComeTo n g text ps
properties_read n g text [] [] are once free few tail = record { h = g; read = ap (properties_at n g) tail; comes = λ k. inr (tt, refl) }
properties_read n g text [] (p ∷ ps) are once free few tail = absurd are
properties_read n g text (w ∷ ws) [] are once free few tail = absurd are
properties_read zero g text (w ∷ ws) (p ∷ ps) are once free few tail = absurd (omega (arith, few, left_less p.field p.said g free.0))
properties_read (suc m) g text (w ∷ ws) (p ∷ ps) are once free few tail =
    let first : IsFirst w ws tail.later = first_of_words w tail.later ws tail.holds in
    let next : Given = put p.field p.said g in
    let less : left g ≡ suc (left next) = left_less p.field p.said g free.0 in
    let more : ComeTo m next first.rest ps = properties_read m next first.rest ws ps are.1 once.1 (free_more p.field p.said g ps once.0 free.1) (omega (arith, few, less)) first.tail in
    let one : property_at g (tail.gap ++ tail.later) ≡ Some (next, first.rest) =
    property_reads p g w tail.gap tail.later first.rest free.0 are.0 tail.is_gap first.whole in
    record {
      h = more.h;
      read = ap (properties_at (suc m) g) tail.whole ∙ properties_step m g next (tail.gap ++ tail.later) first.rest (some_text tail.gap tail.later tail.is_gap) one ∙ more.read;
      comes = λ k. comes_more p ps k g (get k more.h) once.0 (more.comes k);
    }

-- ---- properties that are read stand there

abbrev type_of_first : {F : Type 0} → Option (F × List ℕ) → Type 0
type_of_first {F} o = F

-- how the reader names a property
abbrev Named : Type 0
Named = type_of_first (field_at [])

-- one of six is there
field_by : {C : Type 0} (o : Option (List ℕ)) (f : Named) (other : Option (Named × List ℕ)) (found : Named × List ℕ) → ((rest : List ℕ) → o ≡ Some rest → (f, rest) ≡ found → C)
    → (other ≡ Some found → C) → or_field o f other ≡ Some found → C
field_by None f other found here there e = there e
field_by (Some x) f other found here there e = here x refl (same_some (f, x) found e)

-- the reader found the title of a property
record IsTitle (text rest : List ℕ) (with : List ℕ → Given → Option Given) : Type 0 where
  pub field : Field
  pub whole : text ≡ title_of field ++ rest
  pub puts : (x : List ℕ) (g : Given) → with x g ≡ once (get field g) (put field x g)

title_split : (text : List ℕ) (found : Named × List ℕ) → field_at text ≡ Some found → IsTitle text found.1 (λ x g. with_property found.0 x g)
title_split text found e =
    field_by (behind (codes "class=") text) _ _ found (λ rest b same. record {
      field = Class;
      whole = behind_split (codes "class=") text rest b ∙ ap (λ p. codes "class=" ++ p.1) same;
      puts = λ x g. ap (λ p. with_property p.0 x g) (sym same);
    }) (λ e. field_by (behind (codes "instance=") text) _ _ found (λ rest b same. record {
      field = Instance;
      whole = behind_split (codes "instance=") text rest b ∙ ap (λ p. codes "instance=" ++ p.1) same;
      puts = λ x g. ap (λ p. with_property p.0 x g) (sym same);
    }) (λ e. field_by (behind (codes "role=") text) _ _ found (λ rest b same. record {
      field = Role;
      whole = behind_split (codes "role=") text rest b ∙ ap (λ p. codes "role=" ++ p.1) same;
      puts = λ x g. ap (λ p. with_property p.0 x g) (sym same);
    }) (λ e. field_by (behind (codes "kind=") text) _ _ found (λ rest b same. record {
      field = Kind;
      whole = behind_split (codes "kind=") text rest b ∙ ap (λ p. codes "kind=" ++ p.1) same;
      puts = λ x g. ap (λ p. with_property p.0 x g) (sym same);
    }) (λ e. field_by (behind (codes "machine=") text) _ _ found (λ rest b same. record {
      field = Machine;
      whole = behind_split (codes "machine=") text rest b ∙ ap (λ p. codes "machine=" ++ p.1) same;
      puts = λ x g. ap (λ p. with_property p.0 x g) (sym same);
    }) (λ e. field_by (behind (codes "title=") text) _ _ found (λ rest b same. record {
      field = Title;
      whole = behind_split (codes "title=") text rest b ∙ ap (λ p. codes "title=" ++ p.1) same;
      puts = λ x g. ap (λ p. with_property p.0 x g) (sym same);
    }) (λ e. cc) e) e) e) e) e) e

-- a text is a gap, a property that is not given yet, and what is behind it
record IsOne (g : Given) (text : List ℕ) (next : Given) (rest : List ℕ) : Type 0 where
  pub p : Property
  pub word : List ℕ
  pub gap : List ℕ
  pub whole : text ≡ gap ++ (word ++ rest)
  pub is_gap : IsGap gap
  pub is : IsProperty word p
  pub free : get p.field g ≡ None
  pub next_is : put p.field p.said g ≡ next

property_split : (g : Given) (text : List ℕ) (next : Given) (rest : List ℕ) → property_at g text ≡ Some (next, rest) → IsOne g text next rest
property_split g text next rest e =
    none_by (gap_at text) _ (next, rest) (λ word a f. none_by (field_at word) _ (next, rest) (λ found b i. none_by (quoted_at found.1) _ (next, rest) (λ said c j.
    none_by (with_property found.0 said.0 g) _ (next, rest) (λ more d k.
    let gapped : IsGapped text word = gap_split text word a in
    let titled : IsTitle word found.1 (λ x g. with_property found.0 x g) = title_split word found b in
    let off : IsQuotedOff 1024 found.1 said.0 said.1 = quoted_split 1024 found.1 said.0 said.1 c in
    let both : (more, said.1) ≡ (next, rest) = same_some _ _ k in
    let same_rest : said.1 ≡ rest = ap (λ p. p.1) both in
    once_by (get titled.field g) (put titled.field said.0 g) more (λ free same.
    let full : word ≡ (title_of titled.field ++ off.front) ++ rest =
    titled.whole ∙ ap (λ t. title_of titled.field ++ t) (off.whole ∙ ap (λ r. off.front ++ r) same_rest) ∙ sym (append_assoc (title_of titled.field) off.front rest) in
    record {
      p = record { field = titled.field; said = said.0 };
      word = title_of titled.field ++ off.front;
      gap = gapped.gap;
      whole = gapped.whole ∙ ap (λ t. gapped.gap ++ t) full;
      is_gap = gapped.is_gap;
      is = record { quoted = off.front; whole = refl; is_quoted = off.is };
      free = free;
      next_is = same ∙ ap (λ p. p.0) both;
    }) (sym (titled.puts said.0 g) ∙ d)) j) i) f) e

-- a text is properties, each once, none of which was given before
record AreAll (g : Given) (text : List ℕ) (h : Given) : Type 0 where
  pub words : List (List ℕ)
  pub ps : List Property
  pub tail : AreWords ([] ∷ words) text
  pub are : AreProperties words ps
  pub once : AreOnce ps
  pub free : AreFree ps g
  pub comes : (k : Field) → Comes ps k (get k g) (get k h)

all_more : (g next : Given) (text rest : List ℕ) (h : Given) → IsOne g text next rest → AreAll next rest h → AreAll g text h
all_more g next text rest h one more =
    let p : Property = one.p in
    let free : AreFree more.ps (put p.field p.said g) = subst (AreFree more.ps) (sym one.next_is) more.free in
    let missing : IsMissing more.ps p.field = free_missing p.field p.said g more.ps free in
    record {
      words = one.word ∷ more.words;
      ps = p ∷ more.ps;
      tail = record { gap = one.gap; later = one.word ++ rest; whole = one.whole; is_gap = one.is_gap; holds = words_from one.word (one.word ++ rest) rest more.words refl more.tail };
      are = (one.is, more.are);
      once = (missing, more.once);
      free = (one.free, free_before p.field p.said g more.ps missing free);
      comes = λ k. comes_more p more.ps k g (get k h) missing (subst (λ n. Comes more.ps k (get k n) (get k h)) (sym one.next_is) (more.comes k));
    }

properties_split : (n : ℕ) (g : Given) (text : List ℕ) (h : Given) → properties_at n g text ≡ Some h → AreAll g text h
properties_split n g [] h e =
    let same : g ≡ h = same_some g h e in
    record { words = []; ps = []; tail = refl; are = tt; once = tt; free = tt; comes = λ k. inr (tt, ap (get k) (sym same)) }
properties_split zero g (c ∷ cs) h e = cc
properties_split (suc m) g (c ∷ cs) h e = none_by (property_at g (c ∷ cs)) (λ found. properties_at m found.0 found.1) h (λ found a f.
    all_more g found.0 (c ∷ cs) found.1 h (property_split g (c ∷ cs) found.0 found.1 a) (properties_split m found.0 found.1 h f)) e

-- ---- the properties of a window

pub window_reads : (text : List ℕ) (words : List (List ℕ)) (ps : List Property) (props : Props) → AreProperties words ps → AreOnce ps → AreProps ps props → AreWords ([] ∷ words) text
    → window_at text ≡ Some props
window_reads text words ps props are once gives tail =
    let to : ComeTo 6 none_given text ps = properties_read 6 none_given text words ps are once (none_free ps) none_left tail in
    let h : Given = to.h in
    let class : or_text h.class [] ≡ props.class = gives_same ps Class [] props.class h.class once gives.class (to.comes Class) in
    let instance : or_text h.instance [] ≡ props.instance = gives_same ps Instance [] props.instance h.instance once gives.instance (to.comes Instance) in
    let role : or_text h.role [] ≡ props.role = gives_same ps Role [] props.role h.role once gives.role (to.comes Role) in
    let kind : or_text h.kind (codes "normal") ≡ props.kind = gives_same ps Kind (codes "normal") props.kind h.kind once gives.kind (to.comes Kind) in
    let machine : or_text h.machine [] ≡ props.machine = gives_same ps Machine [] props.machine h.machine once gives.machine (to.comes Machine) in
    let title : or_text h.title [] ≡ props.title = gives_same ps Title [] props.title h.title once gives.title (to.comes Title) in
    let same : props_of h ≡ props = λ i. record { class = class i; instance = instance i; role = role i; kind = kind i; machine = machine i; title = title i } in
    ap (λ o. or_none o (λ given. Some (props_of given))) to.read ∙ ap Some same

-- a text is the properties of a window
pub record IsWindow (text : List ℕ) (props : Props) : Type 0 where
  pub words : List (List ℕ)
  pub ps : List Property
  pub tail : AreWords ([] ∷ words) text
  pub are : AreProperties words ps
  pub once : AreOnce ps
  pub gives : AreProps ps props

pub window_split : (text : List ℕ) (props : Props) → window_at text ≡ Some props → IsWindow text props
window_split text props e = none_by (properties_at 6 none_given text) (λ given. Some (props_of given)) props (λ h a f.
    let all : AreAll none_given text h = properties_split 6 none_given text h a in
    let same : props_of h ≡ props = same_some _ _ f in
    record {
      words = all.words;
      ps = all.ps;
      tail = all.tail;
      are = all.are;
      once = all.once;
      gives = subst (AreProps all.ps) same (record {
        class = comes_gives all.ps Class [] h.class (all.comes Class);
        instance = comes_gives all.ps Instance [] h.instance (all.comes Instance);
        role = comes_gives all.ps Role [] h.role (all.comes Role);
        kind = comes_gives all.ps Kind (codes "normal") h.kind (all.comes Kind);
        machine = comes_gives all.ps Machine [] h.machine (all.comes Machine);
        title = comes_gives all.ps Title [] h.title (all.comes Title);
      });
    }) e
