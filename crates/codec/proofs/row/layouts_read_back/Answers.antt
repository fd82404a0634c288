use Rattle.std.proofs.Common.{◌≡◌, ℕ, List, [], ◌∷◌, length, arith}
use Rattle.std.specs.List.{AllByRecursion}
use Rattle.codec.specs.Bytes.{be2, be4, of2, of4, cell_bytes, cell_of}
use Rattle.codec.specs.Layouts.{Byte}
use Rattle.codec.proofs.Laws as laws
use Rattle.codec.proofs.Rows as rows
use Rattle.codec.proofs.Frames.{body_framed, framed_body}
use Rattle.codec.proofs.row.layouts_read_back.Goals as goal

two : (bs : List ℕ) → AllByRecursion Byte bs → length bs ≡ 2 → be2 (of2 bs) ≡ bs
two [] h e = absurd (omega arith)
two (a ∷ []) h e = absurd (omega arith)
two (a ∷ b ∷ []) (p, (q, h)) e = laws.be2_of2 a b p q
two (a ∷ b ∷ x ∷ bs) h e = absurd (omega arith)

four : (f : List ℕ → List ℕ) → ((a b c d : ℕ) → Byte a → Byte b → Byte c → Byte d → f (a ∷ b ∷ c ∷ d ∷ []) ≡ a ∷ b ∷ c ∷ d ∷ []) → (bs : List ℕ) → AllByRecursion Byte bs → length bs ≡ 4 → f bs ≡ bs
four f k [] h e = absurd (omega arith)
four f k (a ∷ []) h e = absurd (omega arith)
four f k (a ∷ b ∷ []) h e = absurd (omega arith)
four f k (a ∷ b ∷ c ∷ []) h e = absurd (omega arith)
four f k (a ∷ b ∷ c ∷ d ∷ []) (p, (q, (r, (s, h)))) e = k a b c d p q r s
four f k (a ∷ b ∷ c ∷ d ∷ x ∷ bs) h e = absurd (omega arith)

pub returns : goal.returns
returns c = record {
  number2 = laws.of2_be2;
  number4 = laws.of4_be4;
  bytes2 = two;
  bytes4 = four (λ bs. be4 (of4 bs)) laws.be4_of4;
  cell = laws.cell_back;
  cell_back = four (λ bs. cell_bytes (cell_of bs)) laws.bytes_back;
  row = rows.row_back;
  row_back = rows.row_bytes_back;
  frame = body_framed;
  frame_back = framed_body;
}
