-- The texts of replies.
use Rattle.std.proofs.Common.{◌≡◌, ℕ, zero, suc, ◌<◌, ◌/◌, ◌%◌, Bool, true, false, cond, ◌||◌, List, [], ◌∷◌, ◌++◌, map, codes, refl, sym, ◌∙◌, ap, arith, append_assoc}
use Rattle.std.specs.Prelude.{decimal, ◌==◌}
use Rattle.std.specs.Fmt.{digits, digits_onto, digit_glyph}
use Rattle.std.specs.List.{join_with_byte}
use Rattle.json.specs.Print.{escape_byte, escape, quoted}
use Rattle.serde_json.specs.Data.{Data, array, string}
use Rattle.serde_json.specs.View.{items_of}
use Rattle.serde_json.specs.Written.{compact_text, items_text, has_float, items_have_float}
use Rattle.wm_base.specs.ErrorText.{text_of}
use Rattle.wm_base.specs.declared.errors.ErrorText.{ErrorText}
use Rattle.wm_base.specs.declared.errors.ErrorText.TheVariants as errors
use Rattle.wm_json.specs.Arrays.{array_text, texts_data, texts_text}
use Rattle.wm_json.specs.Replies.{success_data, success_text, error_data, parse_error_data, reply_data, reply_text, replies_data, replies_text, version_data, VERSION_TEXT}
use Rattle.wm_json.specs.declared.replies.Reply.{Reply}
use Rattle.wm_json.specs.declared.replies.Reply.TheVariants as replies

pub success_is : (done : Bool) → compact_text (success_data done) ≡ success_text done
unfolding escape_byte
success_is true = refl
success_is false = refl

pub version_is : compact_text version_data ≡ VERSION_TEXT
unfolding escape_byte digits
version_is = refl

-- ---- what stands for itself in a string

escape-append : (xs ys : List ℕ) → escape (xs ++ ys) ≡ escape xs ++ escape ys
escape-append [] ys = refl
escape-append (x ∷ xs) ys = ap (λ zs. escape_byte x ++ zs) (escape-append xs ys) ∙ sym (append_assoc (escape_byte x) (escape xs) (escape ys))

clean-append : (xs ys : List ℕ) → escape xs ≡ xs → escape ys ≡ ys → escape (xs ++ ys) ≡ xs ++ ys
clean-append xs ys h k = escape-append xs ys ∙ ap (λ zs. zs ++ escape ys) h ∙ ap (λ zs. xs ++ zs) k

clean_glyph : (d : ℕ) → d < 10 → escape_byte (digit_glyph false d) ≡ digit_glyph false d ∷ []
unfolding escape_byte
clean_glyph zero h = refl
clean_glyph (suc zero) h = refl
clean_glyph (suc (suc zero)) h = refl
clean_glyph (suc (suc (suc zero))) h = refl
clean_glyph (suc (suc (suc (suc zero)))) h = refl
clean_glyph (suc (suc (suc (suc (suc zero))))) h = refl
clean_glyph (suc (suc (suc (suc (suc (suc zero)))))) h = refl
clean_glyph (suc (suc (suc (suc (suc (suc (suc zero))))))) h = refl
clean_glyph (suc (suc (suc (suc (suc (suc (suc (suc zero)))))))) h = refl
clean_glyph (suc (suc (suc (suc (suc (suc (suc (suc (suc zero))))))))) h = refl
clean_glyph (suc (suc (suc (suc (suc (suc (suc (suc (suc (suc d)))))))))) h = absurd (omega arith)

clean_onto : (k n : ℕ) (more : List ℕ) → escape more ≡ more → escape (digits_onto k 10 false n more) ≡ digits_onto k 10 false n more
clean_onto zero n more h = h
clean_onto (suc k) n more h =
    let g : ℕ = digit_glyph false (n % 10) in
    let e : escape (g ∷ more) ≡ g ∷ more = ap (λ zs. zs ++ escape more) (clean_glyph (n % 10) (omega arith)) ∙ ap (λ zs. g ∷ zs) h in
    elim (n / 10 == 0) as (λ b. escape (cond b (g ∷ more) (digits_onto k 10 false (n / 10) (g ∷ more))) ≡ cond b (g ∷ more) (digits_onto k 10 false (n / 10) (g ∷ more)))
    [ true ↦ e | false ↦ clean_onto k (n / 10) (g ∷ more) e ]

pub clean_decimal : (n : ℕ) → escape (decimal n) ≡ decimal n
unfolding digits
clean_decimal n = clean_onto 64 n [] refl

clean_at : escape (codes "parse error at byte ") ≡ codes "parse error at byte "
unfolding escape_byte
clean_at = refl

clean_pattern : escape (codes "pattern ") ≡ codes "pattern "
unfolding escape_byte
clean_pattern = refl

clean_refused : escape (codes " is refused") ≡ codes " is refused"
unfolding escape_byte
clean_refused = refl

clean_text : (error : ErrorText) → escape (text_of error) ≡ text_of error
unfolding escape_byte
clean_text errors.NoMatch = refl
clean_text errors.NotWindow = refl
clean_text errors.NotTiled = refl
clean_text errors.NotFloating = refl
clean_text errors.NoNeighbour = refl
clean_text errors.NoOutput = refl
clean_text errors.NoWorkspace = refl
clean_text errors.NoMark = refl
clean_text errors.NoContainer = refl
clean_text errors.NoMode = refl
clean_text errors.NoLayout = refl
clean_text errors.NameTaken = refl
clean_text errors.AtWorkspace = refl
clean_text errors.ManyMatch = refl
clean_text errors.NameReserved = refl
clean_text errors.NoPrevious = refl
clean_text errors.CannotResize = refl
clean_text errors.OutOfRange = refl
clean_text errors.SameContainer = refl
clean_text errors.FullContainers = refl
clean_text errors.FullWorkspaces = refl
clean_text errors.FullChildren = refl
clean_text errors.FullDepth = refl
clean_text errors.FullMarks = refl
clean_text errors.FullIds = refl
clean_text errors.ScratchEmpty = refl
clean_text errors.NoCriteria = refl

-- ---- one reply

-- a text between what stands before and after it
between : (before text after : List ℕ) → escape text ≡ text → before ++ ((escape text ++ 34 ∷ []) ++ after) ≡ (before ++ text) ++ (34 ∷ after)
between before text after h =
    ap (λ zs. before ++ zs) (append_assoc (escape text) (34 ∷ []) after ∙ ap (λ zs. zs ++ (34 ∷ after)) h) ∙ sym (append_assoc before text (34 ∷ after))

error_is : (text : List ℕ) → escape text ≡ text → compact_text (error_data text) ≡ codes "{\"error\":\"" ++ text ++ codes "\",\"success\":false}"
unfolding escape_byte
error_is text h = between (codes "{\"error\":\"") text (codes ",\"success\":false}") h

parse_error_is : (text : List ℕ) → escape text ≡ text → compact_text (parse_error_data text) ≡ codes "{\"error\":\"" ++ text ++ codes "\",\"parse_error\":true,\"success\":false}"
unfolding escape_byte
parse_error_is text h = between (codes "{\"error\":\"") text (codes ",\"parse_error\":true,\"success\":false}") h

pub reply_is : (reply : Reply) → compact_text (reply_data reply) ≡ reply_text reply
reply_is replies.Ok = success_is true
reply_is (replies.Error error) = error_is (text_of error) (clean_text error)
reply_is (replies.Parse at) = parse_error_is (codes "parse error at byte " ++ decimal at) (clean-append (codes "parse error at byte ") (decimal at) clean_at (clean_decimal at))
reply_is (replies.Pattern pattern) = error_is (codes "pattern " ++ decimal pattern ++ codes " is refused") (clean-append (codes "pattern " ++ decimal pattern) (codes " is refused") (clean-append (codes "pattern ") (decimal pattern) clean_pattern (clean_decimal pattern)) clean_refused)
    ∙ ap (λ zs. codes "{\"error\":\"pattern " ++ zs) (append_assoc (decimal pattern) (codes " is refused") (codes "\",\"success\":false}"))

reply_whole : (reply : Reply) → has_float (reply_data reply) ≡ false
reply_whole replies.Ok = refl
reply_whole (replies.Error error) = refl
reply_whole (replies.Parse at) = refl
reply_whole (replies.Pattern pattern) = refl

-- ---- arrays

module _ {A : Type 0} (value : A → Data) (text : A → List ℕ) (is : (x : A) → compact_text (value x) ≡ text x) where
  more_are : (xs : List A) (first : A) → items_text true (items_of (map value (first ∷ xs))) ≡ 44 ∷ (join_with_byte 44 (map text (first ∷ xs)) ++ 93 ∷ [])
  more_are [] first = ap (λ zs. 44 ∷ (zs ++ 93 ∷ [])) (is first)
  more_are (second ∷ xs) first =
      ap (λ zs. 44 ∷ (zs ++ items_text true (items_of (map value (second ∷ xs))))) (is first)
      ∙ ap (λ zs. 44 ∷ (text first ++ zs)) (more_are xs second)
      ∙ sym (ap (λ zs. 44 ∷ zs) (append_assoc (text first) (44 ∷ join_with_byte 44 (map text (second ∷ xs))) (93 ∷ [])))

  -- the array of values is the array of their texts
  pub array_is : (xs : List A) → compact_text (array (items_of (map value xs))) ≡ array_text text xs
  array_is [] = refl
  array_is (first ∷ []) = ap (λ zs. 91 ∷ (zs ++ 93 ∷ [])) (is first)
  array_is (first ∷ second ∷ xs) =
      ap (λ zs. 91 ∷ (zs ++ items_text true (items_of (map value (second ∷ xs))))) (is first)
      ∙ ap (λ zs. 91 ∷ (text first ++ zs)) (more_are xs second)
      ∙ sym (ap (λ zs. 91 ∷ zs) (append_assoc (text first) (44 ∷ join_with_byte 44 (map text (second ∷ xs))) (93 ∷ [])))

-- an array of values without floats has none
pub array_whole : {A : Type 0} (value : A → Data) → ((x : A) → has_float (value x) ≡ false) → (xs : List A) → has_float (array (items_of (map value xs))) ≡ false
array_whole value whole [] = refl
array_whole value whole (first ∷ xs) = ap (λ b. b || items_have_float (items_of (map value xs))) (whole first) ∙ array_whole value whole xs

pub replies_are : (given : List Reply) → compact_text (replies_data given) ≡ replies_text given
replies_are = array_is reply_data reply_text reply_is

pub replies_whole : (given : List Reply) → has_float (replies_data given) ≡ false
replies_whole = array_whole reply_data reply_whole

pub texts_are : (texts : List (List ℕ)) → compact_text (texts_data texts) ≡ texts_text texts
texts_are = array_is string quoted (λ t. refl)

pub texts_whole : (texts : List (List ℕ)) → has_float (texts_data texts) ≡ false
texts_whole = array_whole string (λ t. refl)
