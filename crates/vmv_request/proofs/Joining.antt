-- Texts that are put together.
use Rattle.std.proofs.Common.{◌≡◌, ℕ, List, ◌++◌, ap, ◌∙◌, append_assoc}
use Rattle.std.specs.Prelude.{codes}
use Rattle.std.specs.Fmt.{decimal}

-- the head of an answer with this phrase
abbrev pub head_with : (status : ℕ) (called more : List ℕ) (len : ℕ) → List ℕ
head_with status called more len =
    codes "HTTP/1.1 " ++ (decimal status ++ (codes " " ++ (called ++ (codes "\r\nContent-Type: application/json\r\nContent-Length: "
    ++ (decimal len ++ (codes "\r\n" ++ (more ++ codes "Connection: close\r\n\r\n")))))))

-- a report between what stands in front of it and behind it
pub report_joined : (number json : List ℕ) → ((codes "{\"against\":" ++ (number ++ codes ",\"ok\":true,\"report\":")) ++ json) ++ codes "}"
    ≡ codes "{\"against\":" ++ (number ++ (codes ",\"ok\":true,\"report\":" ++ (json ++ codes "}")))
report_joined number json =
    ap (λ l. codes "{\"against\":" ++ l)
    (append_assoc (number ++ codes ",\"ok\":true,\"report\":") json (codes "}") ∙ append_assoc number (codes ",\"ok\":true,\"report\":") (json ++ codes "}"))
