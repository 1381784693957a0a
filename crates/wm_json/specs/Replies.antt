-- The replies to the commands of one text, as values and as texts.
use Rattle.std.specs.Prelude.{ℕ, List, [], ◌++◌, map, codes, decimal, Bool, true, false}
use Rattle.serde_json.specs.Data.{Data, boolean, unsigned, number, string, array, object, member, no_members}
use Rattle.serde_json.specs.View.{items_of}
use Rattle.wm_base.specs.ErrorText.{text_of}
use Rattle.wm_json.specs.Arrays.{array_text}
use Rattle.wm_json.specs.declared.replies.Reply.{Reply}
use Rattle.wm_json.specs.declared.replies.Reply.TheVariants as replies

-- ---- texts

abbrev pub success_text : Bool → List ℕ
success_text true = codes "{\"success\":true}"
success_text false = codes "{\"success\":false}"

abbrev pub VERSION_TEXT : List ℕ
VERSION_TEXT = codes "{\"human_readable\":\"i3replay 1.0.0\",\"loaded_config_file_name\":\"\",\"major\":1,\"minor\":0,\"patch\":0}"

-- the object of one reply
abbrev pub reply_text : Reply → List ℕ
reply_text replies.Ok = success_text true
reply_text (replies.Error error) = codes "{\"error\":\"" ++ text_of error ++ codes "\",\"success\":false}"
reply_text (replies.Parse at) = codes "{\"error\":\"parse error at byte " ++ decimal at ++ codes "\",\"parse_error\":true,\"success\":false}"
reply_text (replies.Pattern pattern) = codes "{\"error\":\"pattern " ++ decimal pattern ++ codes " is refused\",\"success\":false}"

-- the array of the replies, with a comma between two
abbrev pub replies_text : List Reply → List ℕ
replies_text given = array_text reply_text given

-- ---- values

abbrev pub success_data : Bool → Data
success_data done = object (member (codes "success") (boolean done) no_members)

abbrev pub error_data : List ℕ → Data
error_data text = object (member (codes "error") (string text) (member (codes "success") (boolean false) no_members))

abbrev pub parse_error_data : List ℕ → Data
parse_error_data text = object (member (codes "error") (string text) (member (codes "parse_error") (boolean true) (member (codes "success") (boolean false) no_members)))

abbrev pub reply_data : Reply → Data
reply_data replies.Ok = success_data true
reply_data (replies.Error error) = error_data (text_of error)
reply_data (replies.Parse at) = parse_error_data (codes "parse error at byte " ++ decimal at)
reply_data (replies.Pattern pattern) = error_data (codes "pattern " ++ decimal pattern ++ codes " is refused")

abbrev pub replies_data : List Reply → Data
replies_data given = array (items_of (map reply_data given))

abbrev pub version_data : Data
version_data = object (member (codes "human_readable") (string (codes "i3replay 1.0.0")) (member (codes "loaded_config_file_name") (string [])
    (member (codes "major") (number (unsigned 1)) (member (codes "minor") (number (unsigned 0)) (member (codes "patch") (number (unsigned 0)) no_members)))))
