-- A document by the test of its text, where UTF-8 is said as a fact.
use Rattle.std.proofs.Common.{◌≡◌, refl, ℕ, true, false, cond, List, Option, Some, None, IsUtf8}
use Rattle.std.specs.Str.{is_utf8}
use Rattle.std.proofs.lemmas.Str.{IsUtf8-from_is_utf8, is_utf8-from_IsUtf8}
use Rattle.toml.specs.Data.{Members}
use Rattle.toml.specs.Parse.{parse_document}
use Rattle.wm_toml.specs.Document.{document}

pub document-text : (bytes : List ℕ) (found : Members) → IsUtf8 bytes → parse_document bytes ≡ Some found → document bytes ≡ Some found
document-text bytes found text parsed = rw (is_utf8-from_IsUtf8 bytes text) parsed

-- bytes that are no text, or a text that is refused
pub document-refused : (bytes : List ℕ) → (IsUtf8 bytes → parse_document bytes ≡ None) → document bytes ≡ None
document-refused bytes refused =
    elim (is_utf8 bytes) as (λ text. is_utf8 bytes ≡ text → cond text (parse_document bytes) None ≡ None) [
      | true ↦ λ text. refused (IsUtf8-from_is_utf8 bytes text)
      | false ↦ λ text. refl
    ] refl
