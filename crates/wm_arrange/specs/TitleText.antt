-- The texts of titles.
use Rattle.std.specs.Prelude.{◌≡◌, ◌<◌, ℕ, zero, suc, ◌==◌, ◌&&◌, Bool, true, nat_le, nat_lt, if◌then◌else◌, List, [], ◌∷◌, ◌++◌, take, drop, length, slice_index, Option, Some, None, codes}
use Rattle.std.specs.Fmt.{decimal}
use Rattle.std.specs.List.{starts_with}
use Rattle.wm_base.specs.declared.plan.Layout.{Layout}
use Rattle.wm_base.specs.declared.plan.Layout.TheVariants.{SplitH, SplitV, Tabbed, Stacked}
use Rattle.wm_base.specs.declared.properties.Props.{Props}
use Rattle.wm_forest.specs.declared.part.ConKind.{ConKind}
use Rattle.wm_forest.specs.declared.part.ConKind.TheVariants.{Split, Window, Placeholder}
use Rattle.wm_forest.specs.declared.part.ConPart.{ConPart}
use Rattle.wm_forest.specs.declared.part.NodeKind.{NodeKind}
use Rattle.wm_forest.specs.declared.part.NodeKind.TheVariants.{Root, Output, Space, Con}
use Rattle.wm_forest.specs.declared.part.Part.{Part}
use Rattle.wm_forest.specs.Counts.{row_length}
use Rattle.wm_forest.specs.Forest.{Forest}

-- ---- a title format

-- the property that is named at the beginning of a text, and how many bytes its name has
abbrev pub named : Props → List ℕ → Option (List ℕ × ℕ)
named p bs =
    if starts_with (λ a b. a == b) bs (codes "title") then Some (p.title, 5)
    else if starts_with (λ a b. a == b) bs (codes "class") then Some (p.class, 5)
    else if starts_with (λ a b. a == b) bs (codes "instance") then Some (p.instance, 8)
    else if starts_with (λ a b. a == b) bs (codes "machine") then Some (p.machine, 7)
    else None

-- what stands for a percent sign and what follows it: the property in place of its name, or the sign itself
abbrev pub put : Option (List ℕ × ℕ) → List ℕ → List ℕ
put None rest = 37 ∷ rest
put (Some (value, name)) rest = value ++ drop name rest

-- the format with %title, %class, %instance and %machine replaced; what was put in is not read again
abbrev pub filled : Props → List ℕ → List ℕ
filled p [] = []
filled p (b ∷ bs) = if b == 37 then put (named p bs) (filled p bs) else b ∷ filled p bs

-- ---- marks

-- a mark that begins with _ is not shown
abbrev pub is_hidden : List ℕ → Bool
is_hidden mark = starts_with (λ a b. a == b) mark (codes "_")

abbrev pub mark_text : List ℕ → List ℕ
mark_text mark = if is_hidden mark then [] else codes " [" ++ (mark ++ codes "]")

abbrev pub marks_text : List (List ℕ) → List ℕ
marks_text [] = []
marks_text (mark ∷ marks) = mark_text mark ++ marks_text marks

-- ---- titles

abbrev pub letter : Layout → List ℕ
letter SplitH = codes "H"
letter SplitV = codes "V"
letter Tabbed = codes "T"
letter Stacked = codes "S"

-- a window's or placeholder's text is its format filled in, then its marks; a split's is its layout's letter and the
-- number of its children
abbrev pub con_text : ConPart → ConKind → List (List ℕ) → Forest → List ℕ
con_text c (Split layout last) marks kids = letter layout ++ (codes "[" ++ (decimal (row_length kids) ++ codes "]"))
con_text c (Window props owner natural) marks kids = filled props c.title_format ++ marks_text marks
con_text c (Placeholder props swallows) marks kids = filled props c.title_format ++ marks_text marks

abbrev pub node_text : NodeKind → List (List ℕ) → Forest → List ℕ
node_text (Root c) marks kids = []
node_text (Output o) marks kids = []
node_text (Space s) marks kids = []
node_text (Con c) marks kids = con_text c c.kind marks kids

-- a text may be cut before each byte but those that go on with a character
abbrev pub goes_on : ℕ → Bool
goes_on byte = nat_le 128 byte && nat_lt byte 192

-- the last place up to n at which the text may be cut
unfoldable pub cut_place : List ℕ → ℕ → ℕ
cut_place text zero = 0
cut_place text (suc n) = if goes_on (slice_index text (suc n)) then cut_place text n else suc n

-- a text that is cut to 1,024 bytes at a character
unfoldable pub fitted : List ℕ → List ℕ
fitted text = if nat_le (length text) 1024 then text else take (cut_place text 1024) text

-- the text of a container's title
unfoldable pub title_text : Part → Forest → List ℕ
title_text part kids = fitted (node_text part.kind part.marks kids)

-- ---- where a format is cut

-- the parts of a format before and behind its first percent sign
pub record IsAtSign (p : Props) (format before after : List ℕ) : Type 0 where
  pub value : filled p format ≡ before ++ filled p (37 ∷ after)
  pub shorter : length after < length format

-- what is behind a name at the beginning of a text
pub record IsBehind (text name behind : List ℕ) : Type 0 where
  pub starts : starts_with (λ a b. a == b) text name ≡ true
  pub whole : text ≡ name ++ behind
