mod AsciiTexts
