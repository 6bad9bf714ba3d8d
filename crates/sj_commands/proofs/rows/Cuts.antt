-- How inputs are cut into a document and command lines.
use Rattle.std.proofs.Common.{◌≡◌, [], ◌∷◌, refl, codes}
use Rattle.sj_commands.specs.Lines.{document, lines}

-- line feeds, and an empty line
document-plain : document (codes "[1]\n---\n[\"encode\",[]]\n\nx") ≡ codes "[1]\n"
document-plain = refl

lines-plain : lines (codes "[1]\n---\n[\"encode\",[]]\n\nx") ≡ codes "[\"encode\",[]]" ∷ codes "x" ∷ []
lines-plain = refl

-- carriage returns in front of line feeds, a line of one, and one at the very end
document-returns : document (codes "[1]\r\n---\r\na\r\n\r\nb\r\r\nc\r") ≡ codes "[1]\r\n"
document-returns = refl

lines-returns : lines (codes "[1]\r\n---\r\na\r\n\r\nb\r\r\nc\r") ≡ codes "a" ∷ codes "b\r" ∷ codes "c" ∷ []
lines-returns = refl

-- no line `---`: the whole input is the document
document-whole : document (codes "[1]\n ---\n--- \n") ≡ codes "[1]\n ---\n--- \n"
document-whole = refl

lines-whole : lines (codes "[1]\n ---\n--- \n") ≡ []
lines-whole = refl

-- the first line is `---`, and a second one is a command line
document-nothing : document (codes "---\n---\n") ≡ []
document-nothing = refl

lines-second : lines (codes "---\n---\n") ≡ codes "---" ∷ []
lines-second = refl

-- `---` at the very end
document-end : document (codes "1\n---") ≡ codes "1\n"
document-end = refl
