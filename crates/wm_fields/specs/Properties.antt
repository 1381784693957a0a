-- The properties of a window on a line: each is a word with `=` and a quoted text.
use Rattle.std.specs.Prelude.{ℕ, zero, suc, List, [], ◌∷◌, Option, None, Some, codes}
use Rattle.wm_base.specs.declared.properties.Props.{Props}
use Rattle.wm_fields.specs.Fields.{behind, gap_at, or_none}
use Rattle.wm_fields.specs.Quoted.{quoted_at}
use Rattle.wm_fields.specs.declared.properties.Field.{Field}
use Rattle.wm_fields.specs.declared.properties.Field.TheVariants as field
use Rattle.wm_fields.specs.declared.properties.Given.{Given}

abbrev pub or_field : Option (List ℕ) → Field → Option (Field × List ℕ) → Option (Field × List ℕ)
or_field None f other = other
or_field (Some rest) f other = Some (f, rest)

-- the word of a property with its `=`, and what is behind it
abbrev pub field_at : List ℕ → Option (Field × List ℕ)
field_at text =
    or_field (behind (codes "class=") text) field.Class
    (or_field (behind (codes "instance=") text) field.Instance
    (or_field (behind (codes "role=") text) field.Role
    (or_field (behind (codes "kind=") text) field.Kind
    (or_field (behind (codes "machine=") text) field.Machine
    (or_field (behind (codes "title=") text) field.Title None)))))

-- these, where there was no such property before
abbrev pub once : Option (List ℕ) → Given → Option Given
once None given = Some given
once (Some text) given = None

-- the properties that were given with one more, which was not given before
abbrev pub with_property : Field → List ℕ → Given → Option Given
with_property field.Class x given = once given.class (record given { class = Some x })
with_property field.Instance x given = once given.instance (record given { instance = Some x })
with_property field.Role x given = once given.role (record given { role = Some x })
with_property field.Kind x given = once given.kind (record given { kind = Some x })
with_property field.Machine x given = once given.machine (record given { machine = Some x })
with_property field.Title x given = once given.title (record given { title = Some x })

-- one property behind spaces, and what is behind it
abbrev pub property_at : Given → List ℕ → Option (Given × List ℕ)
property_at given text =
    or_none (gap_at text) (λ word. or_none (field_at word) (λ f. or_none (quoted_at f.1) (λ said.
    or_none (with_property f.0 said.0 given) (λ more. Some (more, said.1)))))

-- at most n properties, to the end of the line
abbrev pub properties_at : ℕ → Given → List ℕ → Option Given
properties_at n given [] = Some given
properties_at zero given (c ∷ cs) = None
properties_at (suc n) given (c ∷ cs) = or_none (property_at given (c ∷ cs)) (λ found. properties_at n found.0 found.1)

abbrev pub none_given : Given
none_given = record { class = None; instance = None; role = None; kind = None; machine = None; title = None }

abbrev pub or_text : Option (List ℕ) → List ℕ → List ℕ
or_text None other = other
or_text (Some text) other = text

-- the properties of a window: what was not given is empty, and its kind is `normal`
abbrev pub props_of : Given → Props
props_of given = record {
  class = or_text given.class [];
  instance = or_text given.instance [];
  role = or_text given.role [];
  kind = or_text given.kind (codes "normal");
  machine = or_text given.machine [];
  title = or_text given.title [];
}

-- the properties of a window, to the end of the line: each at most once
abbrev pub window_at : List ℕ → Option Props
window_at text = or_none (properties_at 6 none_given text) (λ given. Some (props_of given))
