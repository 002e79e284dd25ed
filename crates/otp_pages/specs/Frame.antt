-- What stands round all pages (own).
use Rattle.std.specs.Prelude.{ℕ, List, ◌++◌, codes}
use Rattle.otp_pages.specs.Markup.{element}
use Rattle.otp_pages.specs.Style.{style}

-- a document of HTML, in the encoding of its bytes
unfoldable pub document_text : List ℕ
document_text = codes "<!DOCTYPE html>\n<html lang=\"en\">\n<head>\n<meta charset=\"utf-8\">\n<meta name=\"viewport\" content=\"width=device-width, initial-scale=1\">\n<title>"

-- its title: what it is, and of which file
unfoldable pub title_text : List ℕ → List ℕ → List ℕ
title_text what name = what ++ element (codes " ") name (codes "</title>\n<style>\n")

-- its heading, the same
unfoldable pub heading_text : List ℕ → List ℕ → List ℕ
heading_text what name = codes "</style>\n</head>\n<body>\n<h1>" ++ what ++ element (codes " <code>") name (codes "</code></h1>\n")

-- all before what a page tells: what it is, and the name of its file
unfoldable pub head_text : List ℕ → List ℕ → List ℕ
head_text what name = document_text ++ title_text what name ++ style ++ heading_text what name

-- the end of a page
unfoldable pub foot_text : List ℕ
foot_text = codes "</body>\n</html>\n"
